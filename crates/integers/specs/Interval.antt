-- Intervals of integers.
use Rattle.std.specs.Prelude.{Bool, cond, ◌&&◌, ℤ, pos, negsuc}
use Rattle.std.specs.Int.Signed.{le_z}
use Rattle.integers.specs.declared.Interval.{Interval}

-- for C3.3, C3.7: the lesser and the greater of two numbers
unfoldable pub min_z : ℤ → ℤ → ℤ
min_z x y = cond (le_z x y) x y

unfoldable pub max_z : ℤ → ℤ → ℤ
max_z x y = cond (le_z x y) y x

-- for C3.3: from the least to the greatest of four numbers
unfoldable pub around : ℤ → ℤ → ℤ → ℤ → Interval
around p q r s = record { low = min_z (min_z p q) (min_z r s); high = max_z (max_z p q) (max_z r s) }

-- C3.3: an operation's interval, from its results at the operands' ends
unfoldable pub over_ends : (ℤ → ℤ → ℤ) → Interval → Interval → Interval
over_ends op i j = around (op i.low j.low) (op i.low j.high) (op i.high j.low) (op i.high j.high)

-- for C5.2, C3.4: lo ≤ x ≤ hi, as a test
abbrev pub between : ℤ → ℤ → ℤ → Bool
between lo hi x = le_z lo x && le_z x hi

-- C3.4: where every interval lies
abbrev pub bounds : Interval
bounds = record { low = negsuc 999999; high = pos 1000000 }

-- C3.4: both of its ends do
unfoldable pub in_bounds : Interval → Bool
in_bounds i = between bounds.low bounds.high i.low && between bounds.low bounds.high i.high
