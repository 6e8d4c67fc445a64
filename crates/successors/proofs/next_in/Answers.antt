-- `successors::next_in`: a guard seen never to hold ends it; behind another one the updates decide. Assumes nothing.
use mathlib.Core.Path.{sym, ◌∙◌}
use Prim.Native.Nat.{◌+◌}
use native.Mathlib.Omega.{arith}
use Rattle.records.specs.Kind.{truth as truth_sort}
use Rattle.expressions.proofs.Laws.Expression.{fits_here}
use Rattle.expressions.proofs.Laws.Part.{entry, behind_is, behind_within}
use Rattle.successors.proofs.Steps.Successor.{move_off, move_on}
use Rattle.successors.proofs.next_in.Goals as goal

pub overflow_add-from : goal.overflow_add-from
overflow_add-from c = omega (arith, fits_here c.args.file.now (c.args.at + 1) 16 truth_sort c.args.b.low c.requires.fits.guard)

pub returns-then-never : goal.returns-then-never
returns-then-never c = move_off _ _ _ _ c.seen_in-guard.ensures (sym c.never.ensures ∙ c.if-never.true)

pub offset_bounds-spans-from : goal.offset_bounds-spans-from
offset_bounds-spans-from c = omega (arith, fits_here c.args.file.now (c.args.at + 1) 16 truth_sort c.args.b.low c.requires.fits.guard)

pub bounds-spans-from : goal.bounds-spans-from
bounds-spans-from c = entry _ _ c.requires.spans truth_sort (c.args.at + 1) _ c.requires.fits.guard

pub overflow_cast-spans : goal.overflow_cast-spans
overflow_cast-spans c = omega (arith, fits_here c.args.file.now (c.args.at + 1) 16 truth_sort c.args.b.low c.requires.fits.guard, behind_within _ _ c.requires.spans truth_sort (c.args.at + 1) _ c.requires.fits.guard)

pub overflow_add-from-2 : goal.overflow_add-from-2
overflow_add-from-2 c = omega (arith, fits_here c.args.file.now (c.args.at + 1) 16 truth_sort c.args.b.low c.requires.fits.guard, behind_within _ _ c.requires.spans truth_sort (c.args.at + 1) _ c.requires.fits.guard)

pub reach-m-requires : goal.reach-m-requires
reach-m-requires c =
    record { spans = c.requires.spans; fits = rw (behind_is _ _ c.requires.spans truth_sort (c.args.at + 1) _ c.requires.fits.guard) c.requires.fits.updates }

pub returns : goal.returns
returns c =
    move_on _ _ _ _ c.seen_in-guard.ensures
    (sym c.never.ensures ∙ c.if-never.false)
    (rw (behind_is _ _ c.requires.spans truth_sort (c.args.at + 1) _ c.requires.fits.guard) at c.reach-m.ensures)
