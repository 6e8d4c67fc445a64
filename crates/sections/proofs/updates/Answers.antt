-- `sections::updates` meets its contract. The loop's invariant: all updates are what those from `next` on make them, with the variables marked that were
-- set before.
-- Assumes nothing.
use native.Mathlib.Omega.{arith}
use mathlib.Core.Path.{sym, ◌∙◌}
use Rattle.std.proofs.lemmas.Result.{err_from_is_err_and}
use Rattle.sections.proofs.Laws.Section.{update_here, update_named}
use Rattle.sections.proofs.Steps.Section.{updates_stop, updates_field, updates_over, updates_again, updates_ends, updates_refused}
use Rattle.sections.proofs.updates.Goals as goal

pub update_fields-requires : goal.update_fields-requires
update_fields-requires c = omega (arith, update_here _ _ (sym c.loop-marks-test.ensures))

pub returns-then-not-update_fields : goal.returns-then-not-update_fields
returns-then-not-update_fields c =
    sym (c.loop-marks.invariant ∙ updates_field _ _ _ _ (sym c.loop-marks-test.ensures) (sym c.if-not-update_fields.ensures) _)

pub returns-then-left-eq0 : goal.returns-then-left-eq0
returns-then-left-eq0 c =
    sym (c.loop-marks.invariant ∙ updates_over _ _ _ _ (sym c.loop-marks-test.ensures) (sym c.if-not-update_fields.ensures) _ c.if-left-eq0.true)

pub overflow_mul-next : goal.overflow_mul-next
overflow_mul-next c = omega (arith, update_here _ _ (sym c.loop-marks-test.ensures))

pub overflow_add-next : goal.overflow_add-next
overflow_add-next c = omega (arith, update_here _ _ (sym c.loop-marks-test.ensures))

pub bounds-file-next : goal.bounds-file-next
bounds-file-next c = omega (arith, update_here _ _ (sym c.loop-marks-test.ensures))

pub bounds-marks-a : goal.bounds-marks-a
bounds-marks-a c = omega (arith, update_named _ _ _ (sym c.if-not-update_fields.ensures), c.requires)

pub returns-then-marks-a-ne0 : goal.returns-then-marks-a-ne0
returns-then-marks-a-ne0 c =
    sym (
    c.loop-marks.invariant ∙ updates_again _ _ _ _ (sym c.loop-marks-test.ensures) (sym c.if-not-update_fields.ensures) _ c.from-a.ensures _ c.if-left-eq0.false c.if-marks-a-ne0.true
    )

pub bounds-marks-a-in-loop-marks : goal.bounds-marks-a-in-loop-marks
bounds-marks-a-in-loop-marks c = omega (arith, update_named _ _ _ (sym c.if-not-update_fields.ensures), c.requires)

pub update-requires : goal.update-requires
update-requires c = omega (arith, update_here _ _ (sym c.loop-marks-test.ensures))

pub returns-in_err-next : goal.returns-in_err-next
returns-in_err-next c =
    let p = err_from_is_err_and c.from_residual.result c.from_residual.ensures.1 in
    rw (p.1, p.2)
    (sym (
    c.loop-marks.invariant ∙ updates_refused _ _ _ _ (sym c.loop-marks-test.ensures) (sym c.if-not-update_fields.ensures) _ c.from-a.ensures c.if-marks-a-ne0.false
    _ _ c.if-left-eq0.false (sym c.in_err-next.ensures)
    ))

pub loop-marks-preserved : goal.loop-marks-preserved
loop-marks-preserved c =
    c.loop-marks.invariant ∙ updates_ends _ _ _ _ (sym c.loop-marks-test.ensures) (sym c.if-not-update_fields.ensures) _ c.from-a.ensures c.if-marks-a-ne0.false
    _ _ c.if-left-eq0.false (sym c.in_ok-next.ensures)

pub returns : goal.returns
returns c = sym (c.loop-marks.invariant ∙ updates_stop _ _ _ _ (sym c.loop-marks-test.ensures) _)
