-- `states::state_of`: the variables from i on have their values, and `rest` is what they leave of the number (`Digits`). Assumes nothing.
use Rattle.states.proofs.Steps.Number.{Digits}
use Rattle.states.proofs.state_of.Given as goal

abbrev pub invariant-loop-i : goal.invariant-loop-i
invariant-loop-i l = Digits l.low l.high l.number l.state l.rest l.i
