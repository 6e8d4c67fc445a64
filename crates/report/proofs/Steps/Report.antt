-- The report with the bytes of the first i values.
-- Assumes nothing.
use mathlib.Core.Path.{◌≡◌, refl, sym, ap, ap₂, ◌∙◌}
use mathlib.Core.List.{List, [], ◌∷◌, ◌++◌, append_assoc}
use Prim.Native.Nat.{ℕ, suc, ◌+◌, ◌*◌, ◌≤◌, ◌<◌}
use native.Mathlib.Numerals.{add-one}
use native.Mathlib.Omega.{arith}
use lib.IntN.{ℤ, pos}
use lib.ListN.{length, take, drop, get_or, set, length-append, length-set, take-append-drop}
use lib.Seq.{take-suc, take_all, drop-cons, length-take-le}
use Rattle.integers.specs.Bytes.{low_byte, high_byte}
use Rattle.report.specs.Report.{value_bytes}
use Rattle.report.proofs.Laws.Report.{value_bytes_lem, set_pair_at}

bytes_append : (s t : List ℤ) → value_bytes (s ++ t) ≡ value_bytes s ++ value_bytes t
unfolding value_bytes
bytes_append [] t = refl
bytes_append (z ∷ s) t = ap {B = List ℕ} (λ l. low_byte z ∷ high_byte z ∷ l) (bytes_append s t)

unfoldable pub filled : List ℕ → List ℤ → ℕ → List ℕ
filled report values i = take 8 report ++ (value_bytes (take i values) ++ drop (2 * i + 8) report)

module _ (report₀ : List ℕ) (values : List ℤ) where
  -- i values are written
  pub record ValuesWritten (report : List ℕ) (i : ℕ) : Type 0 where
    pub passed : i ≤ 12
    pub done : report ≡ filled report₀ values i
    pub same : length report ≡ length report₀

  abbrev head : ℕ → List ℕ
  head i = take 8 report₀ ++ value_bytes (take i values)

  abbrev old : ℕ → ℕ
  old k = get_or report₀ k 0

  abbrev low : ℕ → ℕ
  low i = low_byte (get_or values i (pos 0))

  abbrev high : ℕ → ℕ
  high i = high_byte (get_or values i (pos 0))

  module _ (long : 32 ≤ length report₀) (twelve : length values ≡ 12) where
    pub filled_begin : ValuesWritten report₀ 0
    unfolding filled value_bytes
    filled_begin = record { passed = omega arith; done = sym (take-append-drop 8 report₀); same = refl }

    head_length : (i : ℕ) → i < 12 → length (head i) ≡ 2 * i + 8
    head_length i h =
        simp (length-append, value_bytes_lem, length-take-le 8 report₀ (omega arith), length-take-le i values (omega arith)) (omega arith)

    -- the report before a turn, with the two bytes that it sets, and after it
    before : (i : ℕ) → i < 12
        → filled report₀ values i ≡ head i ++ old (2 * i + 8) ∷ old (suc (2 * i + 8)) ∷ drop (suc (suc (2 * i + 8))) report₀
    unfolding filled
    before i h =
        sym (append_assoc (take 8 report₀) (value_bytes (take i values)) (drop (2 * i + 8) report₀))
        ∙ ap (λ (l : List ℕ). head i ++ l)
        (drop-cons report₀ (2 * i + 8) 0 (omega arith)
        ∙ ap {B = List ℕ} (λ l. old (2 * i + 8) ∷ l) (drop-cons report₀ (suc (2 * i + 8)) 0 (omega arith)))

    after : (i : ℕ) → i < 12 → head i ++ low i ∷ high i ∷ drop (suc (suc (2 * i + 8))) report₀ ≡ filled report₀ values (i + 1)
    unfolding filled value_bytes
    after i h =
        let e : 2 * suc i + 8 ≡ suc (suc (2 * i + 8)) = omega arith in
        rw (add-one i, e, take-suc values i (pos 0) (omega arith), bytes_append (take i values) (get_or values i (pos 0) ∷ [])) (simp append_assoc)

    filled_set : (i : ℕ) → i < 12 → set (set (filled report₀ values i) (2 * i + 8) (low i)) (2 * i + 9) (high i) ≡ filled report₀ values (i + 1)
    filled_set i h =
        ap₂ (λ (l : List ℕ) (k : ℕ). set (set l (2 * i + 8) (low i)) k (high i)) (before i h) (omega arith)
        ∙ set_pair_at (head i) (drop (suc (suc (2 * i + 8))) report₀) (old (2 * i + 8)) (old (suc (2 * i + 8))) (low i) (high i) (2 * i + 8)
        (head_length i h)
        ∙ after i h

    module _ {report : List ℕ} {i : ℕ} (f : ValuesWritten report i) where
      pub filled_more : {a b : ℕ} → i < 12 → a ≡ low_byte (get_or values i (pos 0)) → b ≡ high_byte (get_or values i (pos 0))
          → ValuesWritten (set (set report (2 * i + 8) a) (2 * i + 9) b) (i + 1)
      filled_more l is it =
          record {
            passed = omega arith;
            done = rw (f.done, is, it) (filled_set i l);
            same = simp length-set f.same;
          }

      pub filled_end : 12 ≤ i → report ≡ take 8 report₀ ++ (value_bytes values ++ drop 32 report₀)
      unfolding filled
      filled_end l =
          let p = f.passed in
          let e : i ≡ 12 = omega arith in
          rw (e, take_all 12 values (omega arith)) at f.done
