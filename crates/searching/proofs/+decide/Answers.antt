-- `searching::decide` meets its contract: what is known of both halves is known of the box. The measure is how often it may be halved.
-- Assumes nothing.
use native.Mathlib.Omega.{arith}
use borrow.Author.Rules.{rules}
use Prim.Native.Nat.{ℕ, ◌<◌}
use lib.IntN.{pos}
use lib.ListN.{get_or}
use lib.Signed.{◌<ℤ◌}
use Rattle.boxes.proofs.Laws.Half.{part_inside, low_inside}
use Rattle.searching.proofs.Steps.Search.{choice_asks, lower_is_part, upper_is_part}
use Rattle.searching.proofs.+decide.Goals as goal
use Rattle.searching.proofs.+decide.Goals.{After-choice-v}

-- the box may be halved at the variable chosen
halved : {t : ℕ} (c : After-choice-v t)
    → (c.choice-v.result < 12) × (get_or c.args.b.low c.choice-v.result (pos 0) <ℤ get_or c.args.b.high c.choice-v.result (pos 0))
halved c = choice_asks _ (search rules) (search rules) c.first_wide-wide.ensures c.if-wide-ge12.false _ c.choice-v.ensures

pub passes-sure-requires-clause-within : goal.passes-sure-requires-clause-within
passes-sure-requires-clause-within t c = part_inside c.requires.part (low_inside c.requires.part)

pub lower-requires : goal.lower-requires
lower-requires t c = let h = halved (goal.at.lower-requires t c).After-choice-v in record { variable = h.0; wide = h.1 }

pub decide-first-requires : goal.decide-first-requires
decide-first-requires t c =
    let p = c.requires in
    (omega (arith, c.decreases), (p.spans, (p.fits, lower_is_part p.part (halved (goal.at.decide-first-requires t c).After-choice-v) c.lower.ensures)))

pub upper-requires : goal.upper-requires
upper-requires t c = let h = halved (goal.at.upper-requires t c).After-choice-v in record { variable = h.0; wide = h.1 }

pub decide-requires : goal.decide-requires
decide-requires t c =
    let p = c.requires in
    (omega (arith, c.decreases), (p.spans, (p.fits, upper_is_part p.part (halved (goal.at.decide-requires t c).After-choice-v) c.upper.ensures)))
