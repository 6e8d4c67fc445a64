-- `conditions::total` meets its contract, by the layout.
-- Assumes nothing.
use native.Mathlib.Omega.{arith}
use Rattle.diagrams.proofs.Laws.Diagram.{promised}
use Rattle.conditions.proofs.Steps.Condition.{laid_bounds, laid_total}
use Rattle.conditions.proofs.total.Goals as goal

pub layout-l-requires : goal.layout-l-requires
layout-l-requires c = (promised _ _ c.requires).transitions

pub overflow_sub-nodes : goal.overflow_sub-nodes
overflow_sub-nodes c = omega (arith, (laid_bounds _ _ c.requires c.layout-l.ensures).from)

pub overflow_add-result : goal.overflow_add-result
overflow_add-result c = let b = laid_bounds _ _ c.requires c.layout-l.ensures in omega (arith, b.nodes, b.covers)

pub overflow_mul-result : goal.overflow_mul-result
overflow_mul-result c = omega (arith, (laid_bounds _ _ c.requires c.layout-l.ensures).product)

pub overflow_add-result-2 : goal.overflow_add-result-2
overflow_add-result-2 c = let b = laid_bounds _ _ c.requires c.layout-l.ensures in omega (arith, b.nodes, b.covers, b.product)

pub returns : goal.returns
returns c = laid_total _ _ c.requires c.layout-l.ensures
