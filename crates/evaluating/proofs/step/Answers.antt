-- `evaluating::step`: a guard that is false ends it; behind one that is true the updates decide. Assumes nothing.
use mathlib.Core.Path.{sym, ◌∙◌}
use Prim.Native.Nat.{◌+◌, ◌*◌}
use native.Mathlib.Omega.{arith}
use Rattle.records.specs.Kind.{truth as truth_sort}
use Rattle.evaluating.specs.Step.{guard_of}
use Rattle.expressions.proofs.Laws.Expression.{fits_here}
use Rattle.expressions.proofs.Laws.Part.{take_rest, lent, entry, behind_is, behind_within}
use Rattle.evaluating.proofs.Steps.Transition.{step_off, step_on}
use Rattle.evaluating.proofs.step.Goals as goal

pub overflow_add-from : goal.overflow_add-from
overflow_add-from c = omega (arith, fits_here c.args.file.now (c.args.at + 1) 16 truth_sort c.args.state c.requires.fits.guard)

pub overflow_mul-from : goal.overflow_mul-from
overflow_mul-from c = omega (arith, fits_here c.args.file.now (c.args.at + 1) 16 truth_sort c.args.state c.requires.fits.guard)

pub slice_bounds-truth_at-start : goal.slice_bounds-truth_at-start
slice_bounds-truth_at-start c = omega (arith, fits_here c.args.file.now (c.args.at + 1) 16 truth_sort c.args.state c.requires.fits.guard)

pub slice_bounds-truth_at-count : goal.slice_bounds-truth_at-count
slice_bounds-truth_at-count c = omega (arith, fits_here c.args.file.now (c.args.at + 1) 16 truth_sort c.args.state c.requires.fits.guard)

pub truth_at-requires : goal.truth_at-requires
truth_at-requires c =
    let part = lent _ _ c.requires.spans truth_sort (c.args.at + 1) _ c.requires.fits.guard (take_rest (8 * (c.args.at + 1)) c.args.file.now) in
    record { fits = part.0; room = part.1.0; spans = part.1.1 }

pub returns-then-not-truth_at : goal.returns-then-not-truth_at
unfolding guard_of
returns-then-not-truth_at c =
    step_off _ _ _ _ _
    ((rw (take_rest (8 * (c.args.at + 1)) c.args.file.now) at (sym c.truth_at.ensures)) ∙ c.if-not-truth_at.true)

pub offset_bounds-spans-from : goal.offset_bounds-spans-from
offset_bounds-spans-from c = omega (arith, fits_here c.args.file.now (c.args.at + 1) 16 truth_sort c.args.state c.requires.fits.guard)

pub bounds-spans-from : goal.bounds-spans-from
bounds-spans-from c = entry _ _ c.requires.spans truth_sort (c.args.at + 1) _ c.requires.fits.guard

pub overflow_add-from-2 : goal.overflow_add-from-2
overflow_add-from-2 c = omega (arith, fits_here c.args.file.now (c.args.at + 1) 16 truth_sort c.args.state c.requires.fits.guard, behind_within _ _ c.requires.spans truth_sort (c.args.at + 1) _ c.requires.fits.guard)

pub updates-requires : goal.updates-requires
updates-requires c =
    record { spans = c.requires.spans; fits = rw (behind_is _ _ c.requires.spans truth_sort (c.args.at + 1) _ c.requires.fits.guard) c.requires.fits.updates }

pub returns-in-Some : goal.returns-in-Some
unfolding guard_of
returns-in-Some c =
    step_on _ _ _ _ _
    ((rw (take_rest (8 * (c.args.at + 1)) c.args.file.now) at (sym c.truth_at.ensures)) ∙ c.if-not-truth_at.false)
    (rw (behind_is _ _ c.requires.spans truth_sort (c.args.at + 1) _ c.requires.fits.guard) at c.in-Some.ensures)

pub returns-in-None : goal.returns-in-None
unfolding guard_of
returns-in-None c =
    step_on _ _ _ _ _
    ((rw (take_rest (8 * (c.args.at + 1)) c.args.file.now) at (sym c.truth_at.ensures)) ∙ c.if-not-truth_at.false)
    (rw (behind_is _ _ c.requires.spans truth_sort (c.args.at + 1) _ c.requires.fits.guard) at c.in-None.ensures)
