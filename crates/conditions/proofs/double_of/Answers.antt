-- `conditions::double_of` meets its contract: the edges passed are no double edges from the node.
-- Assumes nothing.
use mathlib.Core.Path.{sym, ◌∙◌}
use Rattle.conditions.proofs.Steps.Condition.{passed_here, passed_end}
use Rattle.conditions.proofs.double_of.Goals as goal

pub returns-then-double_from : goal.returns-then-double_from
returns-then-double_from c =
    passed_here _ _ _ c.loop-e.invariant c.loop-e-test.true
    c.edge_of-edge.ensures (sym c.double_from.ensures ∙ c.if-double_from.true)

pub returns : goal.returns
returns c = passed_end _ _ _ c.loop-e.invariant c.loop-e-test.false
