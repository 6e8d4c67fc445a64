-- Where a box is halved, and its halves.
use Rattle.std.specs.Prelude.{cond, ◌&&◌, List, [], ◌∷◌, ℕ, suc, ◌+◌, ◌/◌, ltb, ℤ, pos, get_or, set}
use Rattle.std.specs.Int.Signed.{lt_z}
use Rattle.integers.specs.Radix.{at, offset_of}
use Rattle.boxes.specs.declared.Box.{Box}
use Rattle.boxes.specs.Box.{box}

-- the first variable with more than one value, or how many variables there are
unfoldable pub wide_of : List ℤ → List ℤ → ℕ
wide_of [] highs = 0
wide_of (low ∷ lows) [] = 0
wide_of (low ∷ lows) (high ∷ highs) = cond (lt_z low high) 0 (suc (wide_of lows highs))

-- the variable blamed, where it has more than one value, or another
unfoldable pub choice_of : Box → ℕ → ℕ → ℕ
choice_of b blamed other = cond (ltb blamed 12 && lt_z (get_or b.low blamed (pos 0)) (get_or b.high blamed (pos 0))) blamed other

-- half of the way from the low to the high end of variable v, rounded down
unfoldable pub halfway_of : Box → ℕ → ℕ
halfway_of b v = offset_of (get_or b.low v (pos 0)) (get_or b.high v (pos 0)) / 2

-- its values up to there, and those behind
unfoldable pub lower_of : Box → ℕ → Box
lower_of b v = box b.low (set b.high v (at (get_or b.low v (pos 0)) (halfway_of b v)))

unfoldable pub upper_of : Box → ℕ → Box
upper_of b v = box (set b.low v (at (get_or b.low v (pos 0)) (halfway_of b v + 1))) b.high
