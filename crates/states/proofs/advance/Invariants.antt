-- `states::advance`: the variables from i on were at their high ends and start anew (`Carried`). Assumes nothing.
use Rattle.states.proofs.Steps.Number.{Carried}
use Rattle.states.proofs.advance.Given as goal

abbrev pub invariant-loop-i : goal.invariant-loop-i
invariant-loop-i l = Carried l.low l.high l.initial.next l.next l.i
