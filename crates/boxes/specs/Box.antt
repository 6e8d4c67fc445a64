-- Boxes of states: a low and a high end for each variable.
use Rattle.std.specs.Prelude.{List, [], ◌∷◌, ℤ, ◌≤ℤ◌}
use Rattle.states.specs.State.{Within}
use Rattle.boxes.specs.declared.Box.{Box}

abbrev pub box : List ℤ → List ℤ → Box
box low high = record { low = low; high = high }

-- the states of a box
abbrev pub Inside : Box → List ℤ → Type 0
Inside b state = Within b.low b.high state

-- each range low..high has a value, and only values of a wider range
pub data Nested : List ℤ → List ℤ → List ℤ → List ℤ → Type 0 where
  none : Nested [] [] [] []
  more : {least most low high : ℤ} {leasts mosts lows highs : List ℤ} → least ≤ℤ low → low ≤ℤ high → high ≤ℤ most → Nested leasts mosts lows highs
      → Nested (least ∷ leasts) (most ∷ mosts) (low ∷ lows) (high ∷ highs)

-- the box has a state, and only states of the other
abbrev pub Part : Box → Box → Type 0
Part ranges b = Nested ranges.low ranges.high b.low b.high
