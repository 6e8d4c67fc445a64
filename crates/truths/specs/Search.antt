-- Tests of numbers in a row: whether one passes, and the first that fails.
use Rattle.std.specs.Prelude.{Bool, false, cond, ◌||◌, ℕ, zero, suc, ◌+◌}

-- for C8.7, C9.7 and other clauses that ask for one of several: one of the n numbers from `at` on passes the test
unfoldable pub any : (ℕ → Bool) → ℕ → ℕ → Bool
any test zero at = false
any test (suc n) at = test at || any test n (at + 1)

-- for C12.4, C12.5: the first of them that fails the test; `at + n` where none does
unfoldable pub first_failing_from : (ℕ → Bool) → ℕ → ℕ → ℕ
first_failing_from test zero at = at
first_failing_from test (suc n) at = cond (test at) (first_failing_from test n (at + 1)) at

-- for C12.4, C12.5: the first below n, or n
unfoldable pub first_failing : (ℕ → Bool) → ℕ → ℕ
first_failing test n = first_failing_from test n 0
