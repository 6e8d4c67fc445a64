-- `states::number_of`: the number and the count are those of the variables from i on (`Numbered`). Assumes nothing.
use Rattle.states.proofs.Steps.Number.{Numbered}
use Rattle.states.proofs.number_of.Given as goal

abbrev pub invariant-loop-i : goal.invariant-loop-i
invariant-loop-i l = Numbered l.low l.high l.state l.number l.behind l.i
