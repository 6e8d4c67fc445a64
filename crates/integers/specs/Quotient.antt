-- The quotient rounded down and its remainder, of any integer by a natural d above 0.
use Rattle.std.specs.Prelude.{ℕ, suc, ◌-◌, ◌/◌, ◌%◌, ℤ, pos, negsuc}

-- C2.14: the quotient
unfoldable pub quotient : ℤ → ℕ → ℤ
quotient (pos a) d = pos (a / d)
quotient (negsuc a) d = negsuc (a / d)

-- C2.14: the remainder
unfoldable pub remainder : ℤ → ℕ → ℕ
remainder (pos a) d = a % d
remainder (negsuc a) d = d - suc (a % d)
