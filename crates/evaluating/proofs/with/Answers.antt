-- `evaluating::with`: a value in range lies between the range's ends. Assumes nothing.
use lib.IntN.{pos}
use lib.ListN.{get_or}
use borrow.Author.Rules.{rules}
use mir.Syntax.{w16}
use mir.Facts.{to_z-of_z}
use Rattle.integers.proofs.Laws.Parts.{back}
use Rattle.evaluating.proofs.Laws.Transition.{in_range_ends}
use Rattle.evaluating.proofs.with.Goals as goal

pub assign-requires : goal.assign-requires
assign-requires c =
    let a = c.args in
    let ends = in_range_ends _ _ _ _ c.requires.range in
    rw
    (back w16 (get_or a.low a.i (pos 0)) (search rules), back w16 (get_or a.high a.i (pos 0)) (search rules), to_z-of_z c.ranges.x)
    (record { index = c.requires.variable; above = ends.0; below = ends.1 })
