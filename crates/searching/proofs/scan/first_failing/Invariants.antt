-- `searching::scan::first_failing` meets its contract: the test holds in the states before n, and `state` is the next.
-- Assumes nothing.
use Prim.Native.Nat.{◌-◌}
use Rattle.testing.specs.Testing.{passes_of}
use Rattle.searching.proofs.Laws.Scan.{StatesPassed}
use Rattle.searching.proofs.scan.first_failing.Given as goal

abbrev pub invariant-loop-n : goal.invariant-loop-n
invariant-loop-n l = StatesPassed l.diagram (passes_of l.diagram.low l.diagram.high l.file l.test) l.state l.n

abbrev pub decreases-loop-n : goal.decreases-loop-n
decreases-loop-n l = l.states - l.n
