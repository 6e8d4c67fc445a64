-- The states of a file, for the layers that have no diagram yet.
use Rattle.std.specs.Prelude.{List, ℕ, ℤ}
use Rattle.states.specs.State.{Within}
use Rattle.ranges.specs.Range.{lows_of, highs_of}

abbrev pub State : List ℕ → ℕ → List ℤ → Type 0
State file vars state = Within (lows_of file vars) (highs_of file vars) state
