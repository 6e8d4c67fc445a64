-- `shapes::double_from` meets its contract: each return is a case of `double_from`.
-- Assumes nothing.
use Rattle.shapes.specs.Edge.{double_from}
use Rattle.shapes.proofs.double_from.Goals as goal

pub returns-then-edge : goal.returns-then-edge
unfolding double_from
returns-then-edge c = simp c.if-edge.true

pub returns-else-edge : goal.returns-else-edge
unfolding double_from
returns-else-edge c = simp c.if-edge.false
