-- `states::count`: the product is the count of the states of the variables from i on (`Counted`). Assumes nothing.
use Rattle.states.proofs.Steps.Number.{Counted}
use Rattle.states.proofs.count.Given as goal

abbrev pub invariant-loop-i : goal.invariant-loop-i
invariant-loop-i l = Counted l.low l.high l.product l.i
