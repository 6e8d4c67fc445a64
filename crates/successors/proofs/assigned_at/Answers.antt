-- `successors::assigned_at`: the value's expression fits, so its records are there; the table of lengths says where it ends. Assumes nothing.
use Prim.Native.Nat.{◌+◌}
use native.Mathlib.Omega.{arith}
use Rattle.records.specs.Kind.{number as number_sort}
use Rattle.expressions.proofs.Laws.Expression.{fits_here}
use Rattle.expressions.proofs.Laws.Part.{lent, entry, behind_is, behind_within}
use Rattle.successors.specs.Successor.{assigned_at}
use Rattle.successors.proofs.assigned_at.Goals as goal

pub overflow_mul-at : goal.overflow_mul-at
overflow_mul-at c = omega (arith, fits_here c.args.file.now (c.args.at + 1) 16 number_sort c.args.b.low c.requires.fits)

pub overflow_add-at : goal.overflow_add-at
overflow_add-at c = omega (arith, fits_here c.args.file.now (c.args.at + 1) 16 number_sort c.args.b.low c.requires.fits)

pub overflow_add-from : goal.overflow_add-from
overflow_add-from c = omega (arith, fits_here c.args.file.now (c.args.at + 1) 16 number_sort c.args.b.low c.requires.fits)

pub after-requires : goal.after-requires
after-requires c = omega (arith, fits_here c.args.file.now (c.args.at + 1) 16 number_sort c.args.b.low c.requires.fits)

pub number_in-requires : goal.number_in-requires
number_in-requires c =
    let part = lent _ _ c.requires.spans number_sort (c.args.at + 1) _ c.requires.fits c.after.ensures in
    record { fits = part.0; room = part.1.0; spans = part.1.1 }

pub offset_bounds-spans-from : goal.offset_bounds-spans-from
offset_bounds-spans-from c = omega (arith, fits_here c.args.file.now (c.args.at + 1) 16 number_sort c.args.b.low c.requires.fits)

pub bounds-spans-from : goal.bounds-spans-from
bounds-spans-from c = omega (arith, entry _ _ c.requires.spans number_sort (c.args.at + 1) _ c.requires.fits)

pub overflow_add-result : goal.overflow_add-result
overflow_add-result c = omega (arith, fits_here c.args.file.now (c.args.at + 1) 16 number_sort c.args.b.low c.requires.fits, behind_within _ _ c.requires.spans number_sort (c.args.at + 1) _ c.requires.fits)

pub returns : goal.returns
unfolding assigned_at
returns c =
    rw (c.byte_at.ensures, c.number_in.ensures, c.after.ensures)
    (rw (behind_is _ _ c.requires.spans number_sort (c.args.at + 1) _ c.requires.fits))
