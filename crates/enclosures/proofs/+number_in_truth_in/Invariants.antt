-- The measure is the levels left.
use Rattle.enclosures.proofs.+number_in_truth_in.Given as goal

abbrev pub decreases-number_in : goal.decreases-number_in
decreases-number_in l = l.levels

abbrev pub decreases-truth_in : goal.decreases-truth_in
decreases-truth_in l = l.levels
