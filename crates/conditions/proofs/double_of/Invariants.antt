-- `conditions::double_of` meets its contract: the edges passed are no double edges from the node.
-- Assumes nothing.
use Rattle.conditions.proofs.Steps.Condition.{NotDoubled}
use Rattle.conditions.proofs.double_of.Given as goal

abbrev pub invariant-loop-e : goal.invariant-loop-e
invariant-loop-e l = NotDoubled l.file l.diagram l.node l.e
