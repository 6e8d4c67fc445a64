-- What an expression that fits has at its first record, and what the evaluators may ask of its operands.
--     number_kinds, truth_kinds     the kinds of the numbers and of the truths
--     there, level                  the record is there, and a level is left
--     one, two                      the operands fit, and the table has their lengths
--     combined, divided, connected, compared     the same of two operands, by the kind of the record
-- Assumes nothing.
use mathlib.Core.Path.{◌≡◌, refl, sym, ap, ◌∙◌}
use mathlib.Core.List.{List}
use Prim.Native.Nat.{ℕ, suc, ◌+◌, ◌-◌, ◌*◌, ◌≤◌, ◌<◌}
use native.Mathlib.Nat.{add-zero}
use native.Mathlib.Omega.{arith}
use lib.ListN.{length, get_or, drop, length-drop}
use lib.Seq.{get_or-drop}
use lib.IntN.{ℤ}
use Rattle.records.specs.Form.{Form}
use Rattle.records.specs.Form.Form.{Arithmetic, Division, Connective, Comparison}
use Rattle.records.specs.Record.{kind_at}
use Rattle.records.specs.declared.kinds.Sort.{Sort}
use Rattle.records.specs.declared.kinds.Operands.{Operands}
use Rattle.records.specs.Kind.{row, number as number_sort, truth as truth_sort, divisor as divisor_sort}
use Rattle.records.specs.Form.{form_at, row_of}
use Rattle.records.specs.Walk.{span}
use Rattle.records.proofs.Laws.Kind.{number_range, truth_range, arithmetic_form, division_form, connective_form, comparison_form}
use Rattle.expressions.specs.Expression.{part_at, first_operand, second_operand}
use Rattle.expressions.specs.Spans.{Spans}
use Rattle.expressions.specs.Fits.{Fits}
use Rattle.expressions.proofs.Laws.Expression.{first_is, second_is, fits_level, fits_record, fits_one, fits_two, fits_within}
use Rattle.expressions.proofs.Laws.Span.{spans_from_lem}

-- ---- the kinds of the numbers and of the truths
module _ (levels : ℕ) (part : List ℕ) (state : List ℤ) where
  pub number_kinds : Fits levels number_sort part state
      → (0x10 ≤ kind_at part 0) × (kind_at part 0 ≤ 0x19) × (kind_at part 0 < 0x18 → kind_at part 0 ≤ 0x15)
  number_kinds h = number_range (kind_at part 0) (fits_record levels number_sort part state h).sort

  pub truth_kinds : Fits levels truth_sort part state → (0x20 ≤ kind_at part 0) × (kind_at part 0 ≤ 0x29)
  truth_kinds h = truth_range (kind_at part 0) (fits_record levels truth_sort part state h).sort

-- ---- what the evaluators ask of the part of an operand, which begins at record `at` of the table's file
abbrev pub Asked : ℕ → Sort → List ℕ → List ℕ → ℕ → List ℤ → Type 0
Asked levels want part table at state = Fits levels want part state × ((8 * at + length part ≤ 32768) × Spans part (drop at table))

-- ---- a record with two operands, of sorts a and b. p is the part of the first, as the code has it
pub record Two (levels : ℕ) (a b : Sort) (f : Form) (part table : List ℕ) (at : ℕ) (p : List ℕ) (state : List ℤ) : Type 0 where
  pub is : form_at part 0 ≡ f
  pub level : levels ≡ suc (levels - 1)
  pub first : p ≡ first_operand part
  pub left : Asked (levels - 1) a p table (at + 1) state
  pub entry : at + 1 < 4096
  pub within : 8 * (1 + get_or table (at + 1) 0) ≤ length part
  pub room : at + (1 + get_or table (at + 1) 0) ≤ 4096
  pub second : {q : List ℕ} → q ≡ part_at part (1 + get_or table (at + 1) 0) → q ≡ second_operand (levels - 1) part
  pub right : {q : List ℕ} → q ≡ part_at part (1 + get_or table (at + 1) 0)
      → Asked (levels - 1) b q table (at + (1 + get_or table (at + 1) 0)) state

module _ (levels : ℕ) (want : Sort) (part table : List ℕ) (at : ℕ) (state : List ℤ) (h : Asked levels want part table at state) where
  pub there : 8 ≤ length part
  there = (fits_record levels want part state h.0).there

  pub level : levels ≡ suc (levels - 1)
  level = fits_level levels want part state h.0

  onward : (k : ℕ) {p : List ℕ} → p ≡ part_at part k → 8 * k ≤ length part → (below : ℕ) (over : Sort) → Fits below over p state
      → Asked below over p table (at + k) state
  onward k e l below over f =
      (f, (omega (arith, h.1.0, ap length e, length-drop (8 * k) part), rw e (spans_from_lem part table at k h.1.1)))

  module _ {f : Form} (is : form_at part 0 ≡ f) {p : List ℕ} (e : p ≡ part_at part 1) {own a : Sort} where
    pub one : row_of f ≡ row own (Operands.One a) → Asked (levels - 1) a p table (at + 1) state
    one r = onward 1 e there (levels - 1) a (rw (e, ← first_is part) (fits_one level part state is want h.0 r))

    pub two : {b : Sort} → row_of f ≡ row own (Operands.Two a b) → Two levels a b f part table at p state
    two {b} r =
        let below = levels - 1 in
        let first : p ≡ first_operand part = e ∙ sym (first_is part) in
        let both = fits_two level part state is want h.0 r in
        let fits : Fits below a p state = rw first both.0 in
        let l = onward 1 e there below a fits in
        let n_is : get_or table (at + 1) 0 ≡ span below p = rw (get_or-drop, add-zero) at (l.1.1.right 0 below a state fits) in
        let here = (fits_record below a p state fits).there in
        let w = fits_within below a p state fits in
        let m : 8 * (1 + get_or table (at + 1) 0) ≤ length part = omega (arith, there, ap length e, length-drop 8 part) in
        let second : (q : List ℕ) → q ≡ part_at part (1 + get_or table (at + 1) 0) → q ≡ second_operand below part =
        λ q d. rw (second_is below part, ← first, ← n_is) d in
        record {
          is = is;
          level = level;
          first = first;
          left = l;
          entry = omega (arith, l.1.0);
          within = m;
          room = omega (arith, h.1.0);
          second = λ {q} d. second q d;
          right = λ {q} d. onward (1 + get_or table (at + 1) 0) d m below b (rw (second q d) both.1);
        }

-- ---- two operands by the kind of the record
module _ {levels : ℕ} {part table : List ℕ} {at : ℕ} {state : List ℤ} where
  module _ (f : Fits levels number_sort part state) (r : 8 * at + length part ≤ 32768) (s : Spans part (drop at table)) {p : List ℕ}
      (e : p ≡ part_at part 1) where
    pub combined : 0x12 ≤ kind_at part 0 → kind_at part 0 ≤ 0x14 → Two levels number_sort number_sort Arithmetic part table at p state
    combined l h = two _ _ _ _ _ _ (f, (r, s)) (arithmetic_form l h) e refl

    pub divided : 0x18 ≤ kind_at part 0 → kind_at part 0 ≤ 0x19 → Two levels number_sort divisor_sort Division part table at p state
    divided l h = two _ _ _ _ _ _ (f, (r, s)) (division_form l h) e refl

  module _ (f : Fits levels truth_sort part state) (r : 8 * at + length part ≤ 32768) (s : Spans part (drop at table)) {p : List ℕ}
      (e : p ≡ part_at part 1) where
    pub connected : 0x23 ≤ kind_at part 0 → kind_at part 0 ≤ 0x26 → Two levels truth_sort truth_sort Connective part table at p state
    connected l h = two _ _ _ _ _ _ (f, (r, s)) (connective_form l h) e refl

    pub compared : 0x27 ≤ kind_at part 0 → Two levels number_sort number_sort Comparison part table at p state
    compared l = two _ _ _ _ _ _ (f, (r, s)) (comparison_form l (truth_kinds levels part state f).1) e refl
