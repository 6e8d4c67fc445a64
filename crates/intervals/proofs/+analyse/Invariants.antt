-- The measure is the levels left.
use Rattle.intervals.proofs.+analyse.Given as goal

abbrev pub decreases-analyse : goal.decreases-analyse
decreases-analyse l = l.levels
