-- The move forward to the next state.
use Rattle.std.specs.Prelude.{Bool, true, cond, ◌&&◌, List, [], ◌∷◌, ℤ, pos, ◌+ℤ◌}
use Rattle.std.specs.Int.Signed.{le_z, lt_z}

-- every variable is at its high end
unfoldable pub last_of : List ℤ → List ℤ → Bool
last_of [] state = true
last_of (high ∷ highs) [] = true
last_of (high ∷ highs) (value ∷ state) = le_z high value && last_of highs state

-- a variable moves on where all behind it are at their high ends; one that is itself at its high end starts anew. So the last state is followed by the
-- first
unfoldable pub advance_of : List ℤ → List ℤ → List ℤ → List ℤ
advance_of [] highs state = []
advance_of (low ∷ lows) [] state = []
advance_of (low ∷ lows) (high ∷ highs) [] = []
advance_of (low ∷ lows) (high ∷ highs) (value ∷ state) =
    cond (last_of highs state) (cond (lt_z value high) (value +ℤ pos 1) low) value ∷ advance_of lows highs state
