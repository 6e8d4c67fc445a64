-- `intervals::intervals`: the scan from `at` on gives the answer for the whole file. The measure is the records left.
-- Assumes nothing.
use Prim.Native.Nat.{◌-◌}
use Rattle.intervals.specs.Interval.{intervals_of}
use Rattle.intervals.proofs.Laws.Scan.{Scan}
use Rattle.intervals.proofs.intervals.Given as goal

abbrev pub invariant-loop-at : goal.invariant-loop-at
invariant-loop-at l = Scan l.file (intervals_of l.file) l.at

abbrev pub decreases-loop-at : goal.decreases-loop-at
decreases-loop-at l = l.records - l.at
