-- `successors::target_at` meets its contract, by whether it is a pick. Assumes nothing.
use mathlib.Core.Path.{sym, ◌∙◌}
use native.Mathlib.Omega.{arith}
use Rattle.truths.proofs.Laws.Answer.{if_taken, if_left}
use Rattle.records.proofs.Laws.Record.{kind_is_lem}
use Rattle.successors.proofs.Steps.Successor.{target_picked, target_assigned, assigned_bounded}
use Rattle.successors.proofs.target_at.Goals as goal

pub picked_at-requires : goal.picked_at-requires
picked_at-requires c = omega (arith, (kind_is_lem _ _ _ (if_taken c.kind_is.ensures c.if-kind_is.true)).0)

pub returns-then-kind_is : goal.returns-then-kind_is
returns-then-kind_is c = record { is = c.picked_at.ensures.is ∙ sym (target_picked _ _ _ (if_taken c.kind_is.ensures c.if-kind_is.true)); bounded = c.picked_at.ensures.bounded }

pub assigned_at-requires : goal.assigned_at-requires
assigned_at-requires c = record { fits = c.requires.fits.value (if_left c.kind_is.ensures c.if-kind_is.false); spans = c.requires.spans }

pub returns-else-kind_is : goal.returns-else-kind_is
returns-else-kind_is c =
    record { is = c.assigned_at.ensures ∙ sym (target_assigned _ _ _ (if_left c.kind_is.ensures c.if-kind_is.false)); bounded = rw c.assigned_at.ensures (assigned_bounded _ _ _) }
