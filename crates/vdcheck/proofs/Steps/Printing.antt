-- The line with the digits of the first i bytes: behind them it has line feeds.
-- Assumes nothing.
use mathlib.Core.Path.{◌≡◌, refl, ap, ap₂, ◌∙◌}
use mathlib.Core.List.{List, [], ◌∷◌, ◌++◌, append_assoc}
use Prim.Native.Nat.{ℕ, suc, ◌+◌, ◌-◌, ◌*◌, ◌/◌, ◌%◌, ◌≤◌, ◌<◌}
use native.Mathlib.Numerals.{add-one}
use native.Mathlib.Omega.{arith}
use lib.ListN.{length, take, get_or, set, replicate}
use lib.Seq.{take-suc, take_all, length-take-le}
use Rattle.report.proofs.Laws.Report.{set_pair_at}
use Rattle.vdcheck.specs.Printing.{digit_of, digits_of, line_of}

digits_append : (s t : List ℕ) → digits_of (s ++ t) ≡ digits_of s ++ digits_of t
unfolding digits_of
digits_append [] t = refl
digits_append (z ∷ s) t = ap {B = List ℕ} (λ l. digit_of (z / 16) ∷ digit_of (z % 16) ∷ l) (digits_append s t)

digits_length : (s : List ℕ) → length (digits_of s) ≡ 2 * length s
unfolding digits_of
digits_length [] = refl
digits_length (z ∷ s) = omega (arith, digits_length s)

module _ (report : List ℕ) where
  unfoldable pub spelt : ℕ → List ℕ
  spelt i = digits_of (take i report) ++ replicate (65 - 2 * i) 10

  -- the digits of i bytes are written
  pub record Spelt (line : List ℕ) (i : ℕ) : Type 0 where
    pub passed : i ≤ 32
    pub done : line ≡ spelt i

  abbrev high : ℕ → ℕ
  high i = digit_of (get_or report i 0 / 16)

  abbrev low : ℕ → ℕ
  low i = digit_of (get_or report i 0 % 16)

  pub spelt_begin : Spelt (replicate 65 10) 0
  unfolding spelt digits_of
  spelt_begin = record { passed = omega arith; done = refl }

  module _ (all : length report ≡ 32) where
    head_length : (i : ℕ) → i < 32 → length (digits_of (take i report)) ≡ 2 * i
    head_length i h = digits_length (take i report) ∙ ap (λ n. 2 * n) (length-take-le i report (omega arith))

    before : (i : ℕ) → i < 32 → spelt i ≡ digits_of (take i report) ++ 10 ∷ 10 ∷ replicate (63 - 2 * i) 10
    unfolding spelt
    before i h = let e : 65 - 2 * i ≡ suc (suc (63 - 2 * i)) = omega arith in rw e

    after : (i : ℕ) → i < 32 → digits_of (take i report) ++ high i ∷ low i ∷ replicate (63 - 2 * i) 10 ≡ spelt (i + 1)
    unfolding spelt digits_of
    after i h =
        let e : 65 - 2 * suc i ≡ 63 - 2 * i = omega arith in
        rw (add-one i, e, take-suc report i 0 (omega arith), digits_append (take i report) (get_or report i 0 ∷ [])) (simp append_assoc)

    pub spelt_more : {line : List ℕ} {i : ℕ} → Spelt line i → i < 32 → {a b : ℕ} → a ≡ high i → b ≡ low i
        → Spelt (set (set line (2 * i) a) (2 * i + 1) b) (i + 1)
    spelt_more {line} {i} s h ea eb =
        record {
          passed = omega arith;
          done =
              rw (s.done, ea, eb)
              (ap₂ (λ (l : List ℕ) (k : ℕ). set (set l (2 * i) (high i)) k (low i)) (before i h) (omega arith)
              ∙ set_pair_at (digits_of (take i report)) (replicate (63 - 2 * i) 10) 10 10 (high i) (low i) (2 * i) (head_length i h)
              ∙ after i h);
        }

    pub spelt_end : {line : List ℕ} {i : ℕ} → Spelt line i → 32 ≤ i → line ≡ line_of report
    unfolding spelt line_of
    spelt_end {line} {i} s h =
        let e : i ≡ 32 = omega (arith, s.passed) in
        s.done ∙ rw (e, take_all 32 report (omega arith)) refl
