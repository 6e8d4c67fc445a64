-- What the code asks of ranges, and of the variables that a file lacks.
use Rattle.std.specs.Prelude.{◌≡◌, List, [], ◌∷◌, ℕ, ◌<◌, ◌≤◌, ℤ, pos, get_or, ◌≤ℤ◌}

-- no range is empty
pub data Ranges : List ℤ → List ℤ → Type 0 where
  none : Ranges [] []
  more : {low high : ℤ} {lows highs : List ℤ} → low ≤ℤ high → Ranges lows highs → Ranges (low ∷ lows) (high ∷ highs)

-- the variables from `vars` on have one value each, which the state has
unfoldable pub Idle : ℕ → List ℤ → List ℤ → List ℤ → Type 0
Idle vars lows highs state =
    (i : ℕ) → vars ≤ i → i < 12 → (get_or state i (pos 0) ≡ get_or lows i (pos 0)) × (get_or highs i (pos 0) ≡ get_or state i (pos 0))
