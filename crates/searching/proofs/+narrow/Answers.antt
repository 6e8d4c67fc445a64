-- `searching::narrow` meets its contract. The measure is how often the box may be halved.
-- Assumes nothing.
use native.Mathlib.Omega.{arith}
use borrow.Author.Rules.{rules}
use Prim.Native.Nat.{ℕ, ◌<◌}
use lib.IntN.{pos}
use lib.ListN.{get_or}
use lib.Signed.{◌<ℤ◌}
use Rattle.searching.proofs.Steps.Search.{wide_asks, lower_is_part, upper_is_part}
use Rattle.searching.proofs.+narrow.Goals as goal
use Rattle.searching.proofs.+narrow.Goals.{Else-wide-ge12}

-- the box may be halved at its first wide variable
halved : {t : ℕ} (c : Else-wide-ge12 t)
    → (c.first_wide-wide.result < 12) × (get_or c.args.b.low c.first_wide-wide.result (pos 0) <ℤ get_or c.args.b.high c.first_wide-wide.result (pos 0))
halved c = wide_asks _ (search rules) (search rules) c.first_wide-wide.ensures c.if-wide-ge12.false

pub lower-half-requires-clause-wide : goal.lower-half-requires-clause-wide
lower-half-requires-clause-wide t c = (halved (goal.at.lower-half-requires-clause-wide t c).Else-wide-ge12).1

pub decide-found-requires-clause-part : goal.decide-found-requires-clause-part
decide-found-requires-clause-part t c =
    lower_is_part c.requires.part (halved (goal.at.decide-found-requires-clause-part t c).Else-wide-ge12) c.lower-half.ensures

pub upper-requires-clause-wide : goal.upper-requires-clause-wide
upper-requires-clause-wide t c = (halved (goal.at.upper-requires-clause-wide t c).Else-wide-ge12).1

pub narrow-requires : goal.narrow-requires
narrow-requires t c =
    let p = c.requires in
    (omega (arith, c.decreases), (p.spans, (p.fits, upper_is_part p.part (halved (goal.at.narrow-requires t c).Else-wide-ge12) c.upper.ensures)))

pub narrow-requires-2 : goal.narrow-requires-2
narrow-requires-2 t c =
    let p = c.requires in
    (omega (arith, c.decreases), (p.spans, (p.fits, lower_is_part p.part (halved (goal.at.narrow-requires-2 t c).Else-wide-ge12) c.lower-half.ensures)))
