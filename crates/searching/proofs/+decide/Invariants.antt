-- The measure is how often the box may be halved.
use Rattle.searching.proofs.+decide.Given as goal

abbrev pub decreases-decide : goal.decreases-decide
decreases-decide l = l.depth
