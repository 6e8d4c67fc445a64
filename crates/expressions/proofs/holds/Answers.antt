-- `expressions::holds`: the expression that fits at `at` is the one that the part from there on begins with. Assumes nothing.
use Prim.Native.Nat.{◌*◌}
use native.Mathlib.Omega.{arith}
use Rattle.records.specs.Kind.{truth as truth_sort}
use Rattle.expressions.specs.Expression.{holds_of}
use Rattle.expressions.proofs.Laws.Expression.{fits_here}
use Rattle.expressions.proofs.Laws.Part.{take_rest, lent}
use Rattle.expressions.proofs.holds.Goals as goal

pub overflow_mul-at : goal.overflow_mul-at
overflow_mul-at c = omega (arith, fits_here c.args.file.now c.args.at 16 truth_sort c.args.state c.requires.fits)

pub slice_bounds-truth_at-start : goal.slice_bounds-truth_at-start
slice_bounds-truth_at-start c = omega (arith, fits_here c.args.file.now c.args.at 16 truth_sort c.args.state c.requires.fits)

pub slice_bounds-truth_at-count : goal.slice_bounds-truth_at-count
slice_bounds-truth_at-count c = omega (arith, fits_here c.args.file.now c.args.at 16 truth_sort c.args.state c.requires.fits)

pub truth_at-requires : goal.truth_at-requires
truth_at-requires c =
    let l = lent _ _ c.requires.spans truth_sort c.args.at _ c.requires.fits (take_rest (8 * c.args.at) c.args.file.now) in
    record { fits = l.0; room = l.1.0; spans = l.1.1 }

pub returns : goal.returns
unfolding holds_of
returns c = rw (c.truth_at.ensures, take_rest (8 * c.args.at) c.args.file.now)
