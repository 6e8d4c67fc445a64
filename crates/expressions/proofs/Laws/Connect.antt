-- Laws of what one record makes of its operands, by its kind.
--     indicator_true, indicator_false     1 if true, else 0
--     connect_by, compare_by              what is so of each connective, of each comparison by its kind, is so of any
-- Assumes nothing.
use mathlib.Core.Path.{◌≡◌, refl}
use mathlib.Core.Bool.{Bool, true, false, not, cond, ◌&&◌, ◌||◌, beq}
use Prim.Native.Nat.{ℕ}
use lib.Dec.{eqb}
use lib.IntN.{ℤ, pos}
use lib.Signed.{lt_z, le_z}
use Rattle.integers.specs.Tests.{eq_z}
use Rattle.truths.proofs.Laws.Truth.{by-test}
use Rattle.expressions.specs.Expression.{indicator_of, connect_of, compare_of}

pub indicator_true : indicator_of true ≡ pos 1
unfolding indicator_of
indicator_true = refl

pub indicator_false : indicator_of false ≡ pos 0
unfolding indicator_of
indicator_false = refl

module _ (P : Bool → Type 0) (kind : ℕ) where
  pub connect_by : (p q : Bool) → (eqb kind 0x23 ≡ true → P (p && q)) → (eqb kind 0x23 ≡ false → eqb kind 0x24 ≡ true → P (p || q))
      → (eqb kind 0x23 ≡ false → eqb kind 0x24 ≡ false → eqb kind 0x25 ≡ true → P (not p || q))
      → (eqb kind 0x23 ≡ false → eqb kind 0x24 ≡ false → eqb kind 0x25 ≡ false → P (beq p q))
      → P (connect_of kind p q)
  unfolding connect_of
  connect_by p q a o i s =
      let j = cond (eqb kind 0x25) (not p || q) (beq p q) in
      by-test (eqb kind 0x23) (λ t. P (cond t (p && q) (cond (eqb kind 0x24) (p || q) j))) a
      (λ e. by-test (eqb kind 0x24) (λ t. P (cond t (p || q) j)) (o e)
      (λ f. by-test (eqb kind 0x25) (λ t. P (cond t (not p || q) (beq p q))) (i e f) (s e f)))

  pub compare_by : (x y : ℤ) → (eqb kind 0x27 ≡ true → P (eq_z x y)) → (eqb kind 0x27 ≡ false → eqb kind 0x28 ≡ true → P (lt_z x y))
      → (eqb kind 0x27 ≡ false → eqb kind 0x28 ≡ false → P (le_z x y)) → P (compare_of kind x y)
  unfolding compare_of
  compare_by x y a l m =
      by-test (eqb kind 0x27) (λ t. P (cond t (eq_z x y) (cond (eqb kind 0x28) (lt_z x y) (le_z x y)))) a
      (λ e. by-test (eqb kind 0x28) (λ t. P (cond t (lt_z x y) (le_z x y))) (l e) (m e))
