-- Laws of the line that is printed.
--     printed_number     its first two digits are those of the number
--     printed_zero       it begins with 00 only where the number is 0 (C15.3)
-- Assumes nothing.
use mathlib.Core.Path.{◌≡◌, refl, sym, ◌∙◌}
use mathlib.Core.Bool.{Bool, true, false, cond}
use mathlib.Core.List.{List}
use Prim.Native.Nat.{ℕ, ◌+◌, ◌/◌, ◌%◌}
use native.Mathlib.Omega.{arith}
use lib.ListN.{get_or, replicate}
use lib.Dec.{ltb, lit≤}
use Rattle.verdicts.specs.Verdict.{check_of}
use Rattle.report.proofs.Laws.Report.{report_number}
use Rattle.vdcheck.specs.Printing.{digit_of, digits_of, line_of, printed_of}

digit_zero : (n : ℕ) → digit_of n ≡ 48 → n ≡ 0
unfolding digit_of
digit_zero n e = go (ltb n 10) e
  where
    go : (b : Bool) → cond b (n + 48) (n + 87) ≡ 48 → n ≡ 0
    go true e = omega (arith, e)
    go false e = absurd (omega (arith, e))

module _ (file : List ℕ) where
  abbrev number : ℕ
  number = (check_of file 32).number

  pub printed_number : (get_or (printed_of file) 0 0 ≡ digit_of (number / 16)) × (get_or (printed_of file) 1 0 ≡ digit_of (number % 16))
  unfolding printed_of line_of digits_of
  printed_number = let opens = report_number (check_of file 32) (replicate 32 0) (lit≤ tt) in rw opens.1 (refl, refl)

  pub printed_zero : get_or (printed_of file) 0 0 ≡ 48 → get_or (printed_of file) 1 0 ≡ 48 → number ≡ 0
  printed_zero a b =
      omega (arith, digit_zero (number / 16) (sym printed_number.0 ∙ a), digit_zero (number % 16) (sym printed_number.1 ∙ b))
