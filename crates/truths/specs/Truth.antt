-- Implication.
use Rattle.std.specs.Prelude.{Bool, true, false}

-- for C8.7 to C8.13: the first truth is false, or the second is true
unfoldable pub implies : Bool → Bool → Bool
implies true q = q
implies false q = true
