-- The measure is how often the box may be halved.
use Rattle.searching.proofs.+narrow.Given as goal

abbrev pub decreases-narrow : goal.decreases-narrow
decreases-narrow l = l.depth
