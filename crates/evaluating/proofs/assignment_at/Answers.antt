-- `evaluating::assignment_at`: the value's expression fits, so its records are there; the table of lengths says where it ends. Assumes nothing.
use Prim.Native.Nat.{◌+◌, ◌*◌}
use native.Mathlib.Omega.{arith}
use mir.Syntax.{w64}
use Rattle.integers.proofs.Laws.Parts.{back}
use Rattle.records.specs.Kind.{number as number_sort}
use Rattle.evaluating.specs.Transition.{assignment_at}
use Rattle.expressions.proofs.Laws.Expression.{fits_here}
use Rattle.expressions.proofs.Laws.Part.{take_rest, lent, entry, behind_is, behind_within}
use Rattle.evaluating.proofs.assignment_at.Goals as goal

pub overflow_mul-at : goal.overflow_mul-at
overflow_mul-at c = omega (arith, fits_here c.args.file.now (c.args.at + 1) 16 number_sort c.args.state c.requires.fits)

pub overflow_add-at : goal.overflow_add-at
overflow_add-at c = omega (arith, fits_here c.args.file.now (c.args.at + 1) 16 number_sort c.args.state c.requires.fits)

pub overflow_add-from : goal.overflow_add-from
overflow_add-from c = omega (arith, fits_here c.args.file.now (c.args.at + 1) 16 number_sort c.args.state c.requires.fits)

pub overflow_mul-from : goal.overflow_mul-from
overflow_mul-from c = omega (arith, fits_here c.args.file.now (c.args.at + 1) 16 number_sort c.args.state c.requires.fits)

pub slice_bounds-number_at-start : goal.slice_bounds-number_at-start
slice_bounds-number_at-start c = omega (arith, fits_here c.args.file.now (c.args.at + 1) 16 number_sort c.args.state c.requires.fits)

pub slice_bounds-number_at-count : goal.slice_bounds-number_at-count
slice_bounds-number_at-count c = omega (arith, fits_here c.args.file.now (c.args.at + 1) 16 number_sort c.args.state c.requires.fits)

pub number_at-value-requires : goal.number_at-value-requires
number_at-value-requires c =
    let part = lent _ _ c.requires.spans number_sort (c.args.at + 1) _ c.requires.fits (take_rest (8 * (c.args.at + 1)) c.args.file.now) in
    record { fits = part.0; room = part.1.0; spans = part.1.1 }

pub offset_bounds-spans-from : goal.offset_bounds-spans-from
offset_bounds-spans-from c = omega (arith, fits_here c.args.file.now (c.args.at + 1) 16 number_sort c.args.state c.requires.fits)

pub bounds-spans-from : goal.bounds-spans-from
bounds-spans-from c = omega (arith, entry _ _ c.requires.spans number_sort (c.args.at + 1) _ c.requires.fits)

pub overflow_add-result : goal.overflow_add-result
overflow_add-result c = omega (arith, fits_here c.args.file.now (c.args.at + 1) 16 number_sort c.args.state c.requires.fits, behind_within _ _ c.requires.spans number_sort (c.args.at + 1) _ c.requires.fits)

pub returns : goal.returns
unfolding assignment_at
returns c =
    let x = c.number_at-value in
    rw (
      back w64 x.result x.type_inv,
      c.byte_at.ensures,
      x.ensures,
      take_rest (8 * (c.args.at + 1)) c.args.file.now,
    )
    (rw (behind_is _ _ c.requires.spans number_sort (c.args.at + 1) _ c.requires.fits))
