-- `successors::cut_in`: a number cut to a range of 16-bit numbers is one. Assumes nothing.
use mathlib.Core.Path.{◌≡◌, ◌∙◌}
use lib.IntN.{pos}
use lib.ListN.{get_or}
use mir.Syntax.{w16, w64}
use mir.Val.{SFits}
use mir.Facts.{to_z-of_z}
use Rattle.integers.proofs.Laws.Parts.{back}
use Rattle.domains.proofs.Laws.Extent.{cut_fits}
use Rattle.successors.specs.Successor.{cut_in}
use borrow.Author.Rules.{rules}
use Rattle.successors.proofs.cut_in.Goals as goal
use Rattle.successors.proofs.cut_in.Goals.{After-cut}

low : (c : After-cut) → SFits w16 (get_or c.args.ranges.low c.args.i (pos 0))
low c = search rules

high : (c : After-cut) → SFits w16 (get_or c.args.ranges.high c.args.i (pos 0))
high c = search rules

is : (c : After-cut) → let a = c.args in c.cut.result ≡ cut_in a.ranges a.i a.x
is c =
    let l = c.from in
    let h = c.from-2 in
    rw (
      back w64 l.result l.type_inv,
      l.ensures,
      back w64 h.result h.type_inv,
      h.ensures,
      to_z-of_z (low c),
      to_z-of_z (high c),
      to_z-of_z c.ranges.x,
    ) at c.cut.ensures

kept : (c : After-cut) → SFits w16 c.cut.result
kept c = rw (is c) (cut_fits _ _ _ (low c) (high c))

pub overflow_cast-result : goal.overflow_cast-result
overflow_cast-result c = let k = kept c in search rules

pub returns : goal.returns
returns c = rw (back w64 c.cut.result c.cut.type_inv) (to_z-of_z (kept c) ∙ is c)
