-- `conditions::condition_at` meets its contract, by the layout: behind the covers, the node and the position of its condition.
-- Assumes nothing.
use mathlib.Core.Path.{sym, ◌∙◌}
use native.Mathlib.Omega.{arith}
use Rattle.diagrams.proofs.Laws.Diagram.{promised}
use Rattle.conditions.proofs.Laws.Condition.{Move, condition_opening}
use Rattle.conditions.proofs.Steps.Condition.{double_few, laid_cover, laid_move, moved_enabling, moved_before, moved_after}
use Rattle.conditions.proofs.condition_at.Goals as goal
use Rattle.conditions.proofs.condition_at.Goals.{Else-number-l}

pub returns-then-number-eq0 : goal.returns-then-number-eq0
returns-then-number-eq0 c = rw c.if-number-eq0.true (c.opening.ensures ∙ sym (condition_opening _ _ c.requires.loaded))

pub layout-l-requires : goal.layout-l-requires
layout-l-requires c = (promised _ _ c.requires.loaded).transitions

pub returns-then-number-l : goal.returns-then-number-l
returns-then-number-l c =
    laid_cover _ _ c.requires.loaded c.layout-l.ensures _ (omega (arith, c.if-number-eq0.false)) c.if-number-l.true

-- behind the covers: its node, and its position among the node's conditions
move : (c : Else-number-l) → Move c.args.file.now c.args.diagram c.layout-l.result c.args.number
move c = laid_move _ _ c.requires.loaded c.layout-l.ensures _ c.if-number-l.false c.requires.below

pub nonzero_div-node : goal.nonzero_div-node
nonzero_div-node c = (move (goal.at.nonzero_div-node c).Else-number-l).some

pub overflow_add-node : goal.overflow_add-node
overflow_add-node c = omega (arith, (move (goal.at.overflow_add-node c).Else-number-l).node, (promised _ _ c.requires.loaded).nodes.1)

pub nonzero_rem-k : goal.nonzero_rem-k
nonzero_rem-k c = (move (goal.at.nonzero_rem-k c).Else-number-l).some

pub overflow_mul-enabling : goal.overflow_mul-enabling
overflow_mul-enabling c = omega (arith, double_few _ _ c.requires.loaded _ c.double_of-double.ensures)

pub overflow_add-enabling : goal.overflow_add-enabling
overflow_add-enabling c = omega (arith, double_few _ _ c.requires.loaded _ c.double_of-double.ensures)

pub returns-then-k-enabling : goal.returns-then-k-enabling
returns-then-k-enabling c = moved_enabling _ _ (move (goal.at.returns-then-k-enabling c).Else-number-l) c.double_of-double.ensures c.if-k-enabling.true

pub returns-then-k-enabling-2 : goal.returns-then-k-enabling-2
returns-then-k-enabling-2 c =
    c.pair.ensures
    ∙ moved_before _ _ (move (goal.at.returns-then-k-enabling-2 c).Else-number-l)
    c.double_of-double.ensures c.if-k-enabling-2.true

pub returns : goal.returns
returns c =
    c.pair-2.ensures
    ∙ moved_after _ _ (move (goal.at.returns c).Else-number-l)
    c.double_of-double.ensures (omega (arith, c.if-k-enabling.false, c.if-k-enabling-2.false))
