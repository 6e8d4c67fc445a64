-- Tests that go through bytes in a row, as the code takes them: by their places, or over the part of the file that they are.
-- Assumes nothing.
use mathlib.Core.Path.{◌≡◌, refl, sym}
use mathlib.Core.Bool.{Bool, true, false, ◌&&◌}
use mathlib.Core.List.{List}
use Prim.Native.Nat.{ℕ, zero, suc, ◌+◌, ◌<◌, ◌≤◌}
use native.Mathlib.Omega.{arith}
use borrow.Author.Tests.{eq-eqb, ne_eqb}
use lib.ListN.{get_or, take, drop, length}
use lib.Dec.{eqb}
use lib.Pointwise.{pointwise}
use Rattle.std.specs.Bool.{MatchBool}
use Rattle.std.specs.List.{AllWithin, HoldsAt, range_with_len}
use Rattle.std.proofs.lemmas.List.FromFn.{length-range_with_len, get_or-range_with_len}
use Rattle.std.proofs.lemmas.List.{drop_more}
use Rattle.records.specs.Record.{zeros_of, same_bytes}

-- ---- zeros
module _ (file : List ℕ) where
  zeros_each : (from n : ℕ) → ((k : ℕ) → k < n → get_or file (from + k) 0 ≡ 0) → zeros_of file from n ≡ true
  unfolding zeros_of
  zeros_each from zero h = refl
  zeros_each from (suc n) h =
      let z : from + 0 ≡ from = omega arith in
      let first : get_or file from 0 ≡ 0 = rw (← z) (h 0 (omega arith)) in
      rw (eq-eqb _ _ first)
      (zeros_each (from + 1) n (λ k l. let y : from + 1 + k ≡ from + (k + 1) = omega arith in rw y (h (k + 1) (omega arith))))

  zeros_but : (from n k : ℕ) → k < n → (get_or file (from + k) 0 ≡ 0 → ⊥) → zeros_of file from n ≡ false
  unfolding zeros_of
  zeros_but from zero k l h = absurd (omega arith)
  zeros_but from (suc n) zero l h =
      let z : from + 0 ≡ from = omega arith in
      let first : get_or file from 0 ≡ 0 → ⊥ = rw (← z) h in
      rw (ne_eqb _ _ first)
  zeros_but from (suc n) (suc k) l h =
      let y : from + 1 + k ≡ from + suc k = omega arith in
      by_first (eqb (get_or file from 0) 0) (zeros_but (from + 1) n k (omega arith) (rw y h))
    where
      by_first : (b : Bool) {rest : Bool} → rest ≡ false → (b && rest) ≡ false
      by_first true e = e
      by_first false e = refl

  pub zeros_row : (from n : ℕ) (r : Bool) → let row = range_with_len from n in
      MatchBool r (AllWithin (λ i. get_or file i 0 ≡ 0) row 0 (length row)) ((k : ℕ) × (k < length row) × HoldsAt (λ i. get_or file i 0 ≡ 0 → ⊥) row k)
      → r ≡ zeros_of file from n
  zeros_row from n true each =
      sym (zeros_each from n (λ k l. rw (get_or-range_with_len from n k 0 l) at (each k 0 (omega arith) (rw length-range_with_len l))))
  zeros_row from n false some =
      let l : some.0 < n = omega (arith, some.1, length-range_with_len from n) in
      sym (zeros_but from n some.0 l (rw (get_or-range_with_len from n some.0 0 l) at (some.2 0)))

-- ---- the same bytes
same_part : (file : List ℕ) (i j n : ℕ) → i + n ≤ length file → j + n ≤ length file
    → pointwise eqb (take n (drop i file)) (take n (drop j file)) ≡ same_bytes file i j n
unfolding same_bytes
same_part file i j zero k l = refl
same_part file i j (suc n) k l = rw (drop_more file i 0 (omega arith), drop_more file j 0 (omega arith), same_part file (i + 1) (j + 1) n (omega arith) (omega arith))

pub same_parts : (file : List ℕ) (i j m n : ℕ) → m ≡ n → i + m ≤ length file → j + m ≤ length file
    → pointwise eqb (take m (drop i file)) (take n (drop j file)) ≡ same_bytes file i j m
same_parts file i j m n e k l = rw (← e) (same_part file i j m k l)
