-- `successors::reach`: what is left to be made of m is what all the updates make of the box (`Left`). Assumes nothing.
use mathlib.Core.Path.{◌≡◌, refl, sym, ◌∙◌}
use Prim.Native.Nat.{suc, ◌+◌, ◌-◌, ◌/◌}
use lib.ListN.{length}
use native.Mathlib.Nat.{sub-zero}
use native.Mathlib.Omega.{arith}
use Rattle.evaluating.proofs.Laws.Transition.{fits_more}
use Rattle.successors.proofs.Steps.Successor.{left_none, left_end, left_variable, left_more}
use Rattle.successors.proofs.reach.Goals as goal

pub loop-init : goal.loop-init
loop-init c = rw sub-zero (record { fit = c.requires.fits; result = refl })

pub returns-then-not-is_update : goal.returns-then-not-is_update
returns-then-not-is_update c = left_none _ _ _ _ c.loop.invariant (sym c.is_update.ensures ∙ c.if-not-is_update.true)

pub target_at-t-requires : goal.target_at-t-requires
target_at-t-requires c =
    let left : length c.args.file.now / 8 - c.loop.counter ≡ suc (length c.args.file.now / 8 - (c.loop.counter + 1)) = omega arith in
    let named = sym c.is_update.ensures ∙ c.if-not-is_update.false in
    record { fits = (fits_more _ _ _ left named c.loop.invariant.fit).0; spans = c.requires.spans }

pub toward-m-requires : goal.toward-m-requires
toward-m-requires c =
    let left : length c.args.file.now / 8 - c.loop.counter ≡ suc (length c.args.file.now / 8 - (c.loop.counter + 1)) = omega arith in
    let named = sym c.is_update.ensures ∙ c.if-not-is_update.false in
    let l = c.loop.invariant in
    record { variable = left_variable _ _ _ _ l _ left named c.target_at-t.ensures.is; bounded = c.target_at-t.ensures.bounded }

pub loop-preserved : goal.loop-preserved
loop-preserved c =
    let left : length c.args.file.now / 8 - c.loop.counter ≡ suc (length c.args.file.now / 8 - (c.loop.counter + 1)) = omega arith in
    let named = sym c.is_update.ensures ∙ c.if-not-is_update.false in
    left_more _ _ _ _ c.loop.invariant _ left named c.target_at-t.ensures.is c.toward-m.ensures

pub returns : goal.returns
returns c = left_end _ _ _ _ c.loop.invariant (omega arith)
