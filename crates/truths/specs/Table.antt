-- Tables by number.
use Rattle.std.specs.Prelude.{ℕ, zero, suc, ◌+◌, cond, List, [], ◌∷◌, ltb}

-- for C4.2: what f gives at the n numbers from `at` on
unfoldable pub tabulate : {A : Type 0} → (ℕ → A) → ℕ → ℕ → List A
tabulate f zero at = []
tabulate f (suc n) at = f at ∷ tabulate f n (at + 1)

-- for C4.2: a table of `size` entries: what f gives at the numbers below n, and z at those beyond
unfoldable pub table_of : {A : Type 0} → ℕ → A → (ℕ → A) → ℕ → List A
table_of size z f n = tabulate (λ i. cond (ltb i n) (f i) z) size 0
