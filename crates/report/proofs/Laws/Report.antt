-- Laws of the report.
--     value_bytes_lem      two bytes for each value (C14.3)
--     report_short     a buffer with fewer than 32 bytes stays as it is (C14.4)
--     report_rest      of a longer one the bytes from the 33rd on stay, and its length (C14.6)
--     set_pair_at      two neighbours of a list, set one after the other
--     report_number    its first byte is the number, where it has room (C14.1)
-- Assumes nothing.
use mathlib.Core.Path.{◌≡◌, refl, ap}
use mathlib.Core.List.{List, [], ◌∷◌, ◌++◌}
use Prim.Native.Nat.{ℕ, suc, ◌*◌, ◌≤◌, ◌<◌}
use native.Mathlib.Omega.{arith}
use borrow.Author.Tests.{lt-ltb, le-ltb}
use lib.IntN.{ℤ}
use lib.ListN.{length, drop, set, length-append, length-drop}
use Rattle.std.proofs.lemmas.Slice.{drop-append-drop}
use Rattle.report.specs.Report.{value_bytes, report_bytes, report_of}
use Rattle.report.specs.declared.Verdict.{Verdict}

pub value_bytes_lem : (values : List ℤ) → length (value_bytes values) ≡ 2 * length values
unfolding value_bytes
value_bytes_lem [] = refl
value_bytes_lem (z ∷ values) = omega (arith, value_bytes_lem values)

-- ---- lists
set_pair : (p q : List ℕ) (x y a b : ℕ) → set (set (p ++ x ∷ y ∷ q) (length p) a) (suc (length p)) b ≡ p ++ a ∷ b ∷ q
set_pair [] q x y a b = refl
set_pair (z ∷ p) q x y a b = ap {B = List ℕ} (λ l. z ∷ l) (set_pair p q x y a b)

pub set_pair_at : (p q : List ℕ) (x y a b n : ℕ) → length p ≡ n → set (set (p ++ x ∷ y ∷ q) n a) (suc n) b ≡ p ++ a ∷ b ∷ q
set_pair_at p q x y a b n e = rw (← e) (set_pair p q x y a b)

module _ (v : Verdict) (report : List ℕ) where
  pub report_short : length report < 32 → report ≡ report_of v report
  unfolding report_of
  report_short l = rw (lt-ltb _ _ l)

  -- the number stands first
  pub report_number : 32 ≤ length report → (rest : List ℕ) × (report_of v report ≡ v.number ∷ rest)
  unfolding report_of report_bytes
  report_number l = (drop 1 (report_of v report), rw (le-ltb _ _ l))

  pub report_rest : length v.values ≡ 12 → 32 ≤ length report
      → (length (report_of v report) ≡ length report) × (drop 32 (report_of v report) ≡ drop 32 report)
  unfolding report_of report_bytes
  report_rest twelve l =
      let n : length (report_bytes v) ≡ 32 = omega (arith, value_bytes_lem v.values) in
      rw (le-ltb _ _ l) (rw (length-append, length-drop) (omega arith), drop-append-drop 32 report (report_bytes v) 32 (omega arith) n)
