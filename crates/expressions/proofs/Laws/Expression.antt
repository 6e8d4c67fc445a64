-- Laws of what an expression is worth, by the form of its record, one level further in for its operands.
--     first_is, second_is                                     the parts of the operands
--     number_constant, number_variable, number_arithmetic, number_indicator     a number of each form (C2.3 to C2.6)
--     number_division                                         and a quotient or remainder (C2.14)
--     truth_literal, truth_negation, truth_connective, truth_comparison         a truth of each form (C2.7 to C2.10)
--     holds_is                                                a truth expression of a file
--     fits_level, fits_record, fits_small                     an expression that fits has a level and a record that fits, and a number is small
--     fits_opens, fits_one, fits_two                          its operands fit
--     divisor_above, divisor_worth                            a divisor is above 0, and worth its own value
--     fits_within, fits_here                                  all its records are there
-- Assumes nothing.
use mathlib.Core.Path.{◌≡◌, refl, ◌∙◌}
use mathlib.Core.List.{List}
use mathlib.Core.Bool.{not}
use Prim.Native.Nat.{ℕ, zero, suc, ◌+◌, ◌-◌, ◌*◌, ◌≤◌}
use native.Mathlib.Omega.{arith}
use borrow.Author.Tests.{le-leb, lt-leb, ne_eqb}
use lib.ListN.{length, get_or, length-drop}
use lib.Dec.{eqb}
use lib.IntN.{ℤ, pos}
use lib.Signed.{◌≤ℤ◌}
use Rattle.integers.specs.Interval.{bounds}
use Rattle.integers.specs.Inside.{In}
use Rattle.records.specs.Form.{Form}
use Rattle.records.specs.Form.Form.{Constant, Variable, Arithmetic, Indicator, Division, Literal, Negation, Connective, Comparison}
use Rattle.records.specs.Record.{kind_at, field_a, value_b}
use Rattle.records.specs.declared.kinds.Sort.{Sort}
use Rattle.records.specs.declared.kinds.Operands.{Operands}
use Rattle.records.specs.declared.kinds.Operands.TheVariants.{Zero, One, Two}
use Rattle.records.specs.Kind.{count, row, signature_of, signature_at, number as number_sort, divisor as divisor_sort}
use Rattle.records.specs.Form.{form_at, row_of}
use Rattle.records.specs.Walk.{spans, span}
use Rattle.records.proofs.Laws.Kind.{form_range, signature_by}
use Rattle.records.proofs.Laws.Span.{spans_none, spans_one, spans_two, span_opens}
use Rattle.intervals.specs.Interval.{combine, divide}
use Rattle.expressions.specs.Expression.{part_at, first_operand, second_operand, indicator_of, connect_of, compare_of, number_by, truth_by, number, truth}
use Rattle.expressions.specs.Expression.{holds_of}
use Rattle.expressions.specs.Fits.{RecordFits, OperandsFit, Fits}

-- ---- the operands
pub first_is : (part : List ℕ) → first_operand part ≡ part_at part 1
unfolding first_operand
first_is part = refl

pub second_is : (levels : ℕ) (part : List ℕ) → second_operand levels part ≡ part_at part (1 + span levels (first_operand part))
unfolding second_operand
second_is levels part = refl

-- ---- worth
module _ {levels below : ℕ} (e : levels ≡ suc below) (part : List ℕ) (state : List ℤ) where
  number_opens : number levels part state ≡ number_by below (λ p. number below p state) (λ p. truth below p state) (kind_at part 0) part state
  unfolding number
  number_opens = rw e

  truth_opens : truth levels part state ≡ truth_by below (λ p. number below p state) (λ p. truth below p state) (kind_at part 0) part
  unfolding truth
  truth_opens = rw e

  pub number_constant : form_at part 0 ≡ Constant → number levels part state ≡ value_b part 0
  unfolding number_by
  number_constant is = number_opens ∙ rw (form_range (kind_at part 0) is)

  pub number_variable : form_at part 0 ≡ Variable → number levels part state ≡ get_or state (field_a part 0) (pos 0)
  unfolding number_by
  number_variable is = number_opens ∙ rw (form_range (kind_at part 0) is)

  pub number_arithmetic : form_at part 0 ≡ Arithmetic
      → number levels part state ≡ combine (kind_at part 0) (number below (first_operand part) state) (number below (second_operand below part) state)
  unfolding number_by
  number_arithmetic is =
      let k = kind_at part 0 in
      let r = form_range k is in
      number_opens ∙ rw (ne_eqb k 0x10 (λ z. omega arith), ne_eqb k 0x11 (λ z. omega arith), ne_eqb k 0x15 (λ z. omega arith), lt-leb 0x18 k (omega arith))

  pub number_indicator : form_at part 0 ≡ Indicator → number levels part state ≡ indicator_of (truth below (first_operand part) state)
  unfolding number_by
  number_indicator is = number_opens ∙ rw (form_range (kind_at part 0) is)

  pub number_division : form_at part 0 ≡ Division
      → number levels part state ≡ divide (kind_at part 0) (number below (first_operand part) state) (number below (second_operand below part) state)
  unfolding number_by
  number_division is =
      let k = kind_at part 0 in
      let r = form_range k is in
      number_opens ∙ rw (ne_eqb k 0x10 (λ z. omega arith), ne_eqb k 0x11 (λ z. omega arith), ne_eqb k 0x15 (λ z. omega arith), le-leb 0x18 k r.0)

  pub truth_literal : form_at part 0 ≡ Literal → truth levels part state ≡ eqb (kind_at part 0) 0x20
  unfolding truth_by
  truth_literal is = truth_opens ∙ rw (le-leb _ _ (form_range (kind_at part 0) is).1)

  pub truth_negation : form_at part 0 ≡ Negation → truth levels part state ≡ not (truth below (first_operand part) state)
  unfolding truth_by
  truth_negation is = truth_opens ∙ rw (form_range (kind_at part 0) is)

  pub truth_connective : form_at part 0 ≡ Connective
      → truth levels part state ≡ connect_of (kind_at part 0) (truth below (first_operand part) state) (truth below (second_operand below part) state)
  unfolding truth_by
  truth_connective is =
      let k = kind_at part 0 in
      let r = form_range k is in
      truth_opens ∙ rw (lt-leb k 0x21 (omega arith), ne_eqb k 0x22 (λ z. omega arith), le-leb k 0x26 r.1)

  pub truth_comparison : form_at part 0 ≡ Comparison
      → truth levels part state ≡ compare_of (kind_at part 0) (number below (first_operand part) state) (number below (second_operand below part) state)
  unfolding truth_by
  truth_comparison is =
      let k = kind_at part 0 in
      let r = form_range k is in
      truth_opens ∙ rw (lt-leb k 0x21 (omega arith), ne_eqb k 0x22 (λ z. omega arith), lt-leb k 0x26 r.0)

  -- ---- operands that fit
  pub fits_opens : {kind : ℕ} (is : kind_at part 0 ≡ kind) (want : Sort) (h : Fits levels want part state)
      → OperandsFit (λ sort p. Fits below sort p state) below part (signature_of kind).operands
  unfolding Fits
  fits_opens is want h = (rw (e, is) at h).2

  module _ {f : Form} (is : form_at part 0 ≡ f) (want : Sort) (h : Fits levels want part state) {own a : Sort} where
    pub fits_one : row_of f ≡ row own (One a) → Fits below a (first_operand part) state
    unfolding OperandsFit
    fits_one r = rw (signature_by (kind_at part 0) is, r) at (fits_opens refl want h)

    pub fits_two : {b : Sort} → row_of f ≡ row own (Two a b) → Fits below a (first_operand part) state × Fits below b (second_operand below part) state
    unfolding OperandsFit
    fits_two r = rw (signature_by (kind_at part 0) is, r) at (fits_opens refl want h)

pub holds_is : (file : List ℕ) (at : ℕ) (state : List ℤ) → holds_of file at state ≡ truth 16 (part_at file at) state
unfolding holds_of
holds_is file at state = refl

-- ---- an expression that fits
pub fits_level : (levels : ℕ) (want : Sort) (part : List ℕ) (state : List ℤ) → Fits levels want part state → levels ≡ suc (levels - 1)
unfolding Fits
fits_level zero want part state h = absurd h
fits_level (suc levels) want part state h = omega arith

pub fits_record : (levels : ℕ) (want : Sort) (part : List ℕ) (state : List ℤ) → Fits levels want part state → RecordFits want part
unfolding Fits
fits_record zero want part state h = absurd h
fits_record (suc levels) want part state h = h.0

pub fits_small : (levels : ℕ) (part : List ℕ) (state : List ℤ) → Fits levels number_sort part state → In (number levels part state) bounds
unfolding Fits
fits_small zero part state h = absurd h
fits_small (suc levels) part state h = h.1 refl

-- a divisor
module _ (levels : ℕ) (part : List ℕ) (state : List ℤ) (h : Fits levels divisor_sort part state) where
  pub divisor_above : pos 1 ≤ℤ value_b part 0
  divisor_above = ((fits_record levels divisor_sort part state h).divisor refl).1

  pub divisor_worth : number levels part state ≡ value_b part 0
  divisor_worth =
      number_constant (fits_level levels divisor_sort part state h) part state ((fits_record levels divisor_sort part state h).divisor refl).0

-- ---- its records
operands_within : (F : Sort → List ℕ → Type 0) (below : ℕ) (part : List ℕ) (operands : Operands) → 8 ≤ length part
    → ((sort : Sort) (p : List ℕ) → F sort p → 8 * span below p ≤ length p) → OperandsFit F below part operands
    → 8 * spans (span below) (count operands) 1 part ≤ length part
unfolding OperandsFit first_operand second_operand
operands_within F below part Zero there ih h = rw spans_none (omega arith)
operands_within F below part (One a) there ih h = rw spans_one (omega (arith, ih a (first_operand part) h, length-drop 8 part))
operands_within F below part (Two a b) there ih h =
    let second = 8 * (1 + span below (first_operand part)) in
    rw spans_two
    (omega (arith, ih a (first_operand part) h.0, ih b (second_operand below part) h.1, length-drop 8 part, length-drop second part))

pub fits_within : (levels : ℕ) (want : Sort) (part : List ℕ) (state : List ℤ) → Fits levels want part state → 8 * span levels part ≤ length part
unfolding Fits
fits_within zero want part state h = absurd h
fits_within (suc levels) want part state h =
    rw (span_opens {below = levels} refl part refl)
    (operands_within (λ sort p. Fits levels sort p state) levels part (signature_at part 0).operands h.0.there
    (λ sort p. fits_within levels sort p state) h.2)

-- of an expression of a file
pub fits_here : (file : List ℕ) (at levels : ℕ) (want : Sort) (state : List ℤ) → Fits levels want (part_at file at) state → 8 * at + 8 ≤ length file
fits_here file at levels want state h = let l = (fits_record levels want (part_at file at) state h).there in omega (arith, length-drop (8 * at) file)
