-- `sections::item::items` meets its contract. The loop's invariant: the section is what its items from `at` on make it, `count` before them and at most
-- `most - count` to follow.
-- Assumes nothing.
use native.Mathlib.Omega.{arith}
use mathlib.Core.Path.{◌≡◌, sym, ◌∙◌}
use Prim.Native.Nat.{◌-◌}
use Rattle.std.proofs.lemmas.Result.{err_from_is_err_and}
use Rattle.records.proofs.Laws.Record.{kind_is_lem}
use Rattle.sections.proofs.Steps.Section.{items_stop, items_field, items_over, items_ends, items_refused}
use Rattle.sections.proofs.item.items.Goals as goal

pub loop-item-init : goal.loop-item-init
loop-item-init g c = let all : c.args.most - 0 ≡ c.args.most = omega arith in (rw all, omega arith)

pub fields-requires : goal.fields-requires
fields-requires g c = omega (arith, (kind_is_lem _ _ _ (sym c.loop-item-test.ensures)).0)

pub returns-then-not-fields : goal.returns-then-not-fields
returns-then-not-fields g c =
    let named = rw c.KIND.ensures at (sym c.loop-item-test.ensures) in
    sym (c.loop-item.invariant.0 ∙ items_field _ _ _ _ _ _ named (sym c.if-not-fields.ensures) _)

pub returns-then-count-most : goal.returns-then-count-most
returns-then-count-most g c =
    let named = rw c.KIND.ensures at (sym c.loop-item-test.ensures) in
    sym (c.loop-item.invariant.0 ∙ items_over _ _ _ _ _ _ named (sym c.if-not-fields.ensures) _ (omega arith))

pub walk-requires : goal.walk-requires
walk-requires g c =
    c.requires.walkable _ c.loop-item.invariant.1.1 (kind_is_lem _ _ _ (sym c.loop-item-test.ensures)).0

pub returns-in_err-at : goal.returns-in_err-at
returns-in_err-at g c =
    let named = rw c.KIND.ensures at (sym c.loop-item-test.ensures) in
    let p = err_from_is_err_and c.from_residual.result c.from_residual.ensures.1 in
    rw (p.1, p.2)
    (sym (c.loop-item.invariant.0 ∙ items_refused _ _ _ _ _ _ named (sym c.if-not-fields.ensures) _ _ (λ z. omega arith) (sym c.in_err-at.ensures)))

pub loop-item-preserved : goal.loop-item-preserved
loop-item-preserved g c =
    let named = rw c.KIND.ensures at (sym c.loop-item-test.ensures) in
    let ends = sym c.in_ok-at.ensures in (
      c.loop-item.invariant.0 ∙ items_ends _ _ _ _ _ _ named (sym c.if-not-fields.ensures) _ _ _ (omega arith) ends,
      (omega arith, omega (arith, c.requires.onward _ _ ends)),
    )

pub returns : goal.returns
returns g c =
    let ends = rw c.KIND.ensures at (sym c.loop-item-test.ensures) in
    sym (c.loop-item.invariant.0 ∙ items_stop _ _ _ _ _ _ ends _)
