-- States, as lists of twelve values: a variable that the file lacks has the range 0..0, so that its value is zero.
use Rattle.std.specs.Prelude.{List, [], ◌∷◌, ℤ, ◌≤ℤ◌}

-- C4.1, C4.2: each value is in its range
pub data Within : List ℤ → List ℤ → List ℤ → Type 0 where
  none : Within [] [] []
  more : {low high value : ℤ} {lows highs state : List ℤ} → low ≤ℤ value → value ≤ℤ high → Within lows highs state
      → Within (low ∷ lows) (high ∷ highs) (value ∷ state)
