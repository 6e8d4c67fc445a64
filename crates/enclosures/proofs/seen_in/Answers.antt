-- `enclosures::seen_in`: the expression that fits at `at` is the one that the part from there on begins with. Assumes nothing.
use native.Mathlib.Omega.{arith}
use Rattle.records.specs.Kind.{truth as truth_sort}
use Rattle.expressions.proofs.Laws.Expression.{fits_here}
use Rattle.expressions.proofs.Laws.Part.{lent}
use Rattle.enclosures.proofs.seen_in.Goals as goal

pub after-requires : goal.after-requires
after-requires c = omega (arith, fits_here c.args.file.now c.args.at 16 truth_sort c.args.b.low c.requires.fits)

pub truth_in-requires : goal.truth_in-requires
truth_in-requires c =
    let l = lent _ _ c.requires.spans truth_sort c.args.at _ c.requires.fits c.after.ensures in
    record { fits = l.0; room = l.1.0; spans = l.1.1 }
