-- `records::walk::walk_sort` meets its contract, by the tests in their order. The measure is the levels left. Assumes nothing.
use Rattle.records.proofs.walk.+walk_sort.Given as goal

abbrev pub decreases-walk_sort : goal.decreases-walk_sort
decreases-walk_sort l = l.levels
