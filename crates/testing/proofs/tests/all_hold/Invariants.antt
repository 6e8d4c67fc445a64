-- `testing::tests::all_hold`: the states before `state` pass, so that the others decide (`Trying`). The measure is how many are left.
-- Assumes nothing.
use Prim.Native.Nat.{◌-◌}
use Rattle.states.specs.Number.{count_of, number_of}
use Rattle.states.proofs.Laws.Between.{Trying}
use Rattle.testing.specs.Testing.{some_holds, listed}
use Rattle.testing.proofs.tests.all_hold.Given as goal

abbrev pub invariant-loop-low : goal.invariant-loop-low
invariant-loop-low l = Trying (some_holds l.file (listed l.targets)) l.low l.high l.state

abbrev pub decreases-loop-low : goal.decreases-loop-low
decreases-loop-low l = count_of l.low l.high - number_of l.low l.high l.state
