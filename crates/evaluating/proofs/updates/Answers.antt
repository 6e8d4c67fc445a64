-- `evaluating::updates`: what is left to do to the ends gives what all the updates do to `state` (`Left`). Assumes nothing.
use mathlib.Core.Path.{◌≡◌, sym, ◌∙◌}
use Prim.Native.Nat.{suc, ◌+◌, ◌-◌, ◌/◌}
use lib.ListN.{length}
use native.Mathlib.Nat.{sub-zero}
use native.Mathlib.Omega.{arith}
use Rattle.evaluating.proofs.Laws.Transition.{fits_more}
use Rattle.evaluating.proofs.Steps.Transition.{left_begins, left_none, left_end, left_variable, left_out, left_more}
use Rattle.evaluating.proofs.updates.Goals as goal

pub loop-init : goal.loop-init
loop-init c = rw sub-zero (left_begins _ _ _ _ _ _ c.requires.fits)

pub update_at-u-requires : goal.update_at-u-requires
update_at-u-requires c =
    let left : length c.args.file.now / 8 - c.loop.counter ≡ suc (length c.args.file.now / 8 - (c.loop.counter + 1)) = omega arith in
    let named = sym c.is_update.ensures ∙ c.if-not-is_update.false in
    record { fits = (fits_more _ _ _ left named c.loop.invariant.fit).0; spans = c.requires.spans }

pub fits-requires : goal.fits-requires
fits-requires c =
    let left : length c.args.file.now / 8 - c.loop.counter ≡ suc (length c.args.file.now / 8 - (c.loop.counter + 1)) = omega arith in
    let named = sym c.is_update.ensures ∙ c.if-not-is_update.false in
    left_variable _ _ _ _ _ c.loop.invariant _ left named c.update_at-u.ensures

pub returns-then-not-fits : goal.returns-then-not-fits
returns-then-not-fits c =
    let left : length c.args.file.now / 8 - c.loop.counter ≡ suc (length c.args.file.now / 8 - (c.loop.counter + 1)) = omega arith in
    let named = sym c.is_update.ensures ∙ c.if-not-is_update.false in
    left_out _ _ _ _ _ c.loop.invariant _ left named c.update_at-u.ensures (sym c.fits.ensures ∙ c.if-not-fits.true)

pub with_update-e-requires : goal.with_update-e-requires
with_update-e-requires c =
    let left : length c.args.file.now / 8 - c.loop.counter ≡ suc (length c.args.file.now / 8 - (c.loop.counter + 1)) = omega arith in
    let named = sym c.is_update.ensures ∙ c.if-not-is_update.false in
    record {
      variable = left_variable _ _ _ _ _ c.loop.invariant _ left named c.update_at-u.ensures;
      range = sym c.fits.ensures ∙ c.if-not-fits.false;
    }

pub loop-preserved : goal.loop-preserved
loop-preserved c =
    let left : length c.args.file.now / 8 - c.loop.counter ≡ suc (length c.args.file.now / 8 - (c.loop.counter + 1)) = omega arith in
    let named = sym c.is_update.ensures ∙ c.if-not-is_update.false in
    left_more _ _ _ _ _ c.loop.invariant _ left named c.update_at-u.ensures (sym c.fits.ensures ∙ c.if-not-fits.false) c.with_update-e.ensures

pub returns-after-loop : goal.returns-after-loop
returns-after-loop c = left_end _ _ _ _ _ c.loop.invariant (omega arith)

pub returns-then-not-is_update : goal.returns-then-not-is_update
returns-then-not-is_update c = left_none _ _ _ _ _ c.loop.invariant (sym c.is_update.ensures ∙ c.if-not-is_update.true)
