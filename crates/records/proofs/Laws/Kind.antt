-- Laws of the classification of kinds.
--     constant_form, variable_form, arithmetic_form, indicator_form, division_form, literal_form, negation_form, connective_form, comparison_form
--                                                 the form of a kind, by the range that it lies in
--     unfit_below, unfit_between, unfit_behind, unfit_above     a kind in none of the ranges is unfit (C2.11)
--     signature_form, signature_by                the signature of a kind is its form's (C2.2, C2.11)
--     leaf_signature                              constants and variables have one signature
--     head_none                                   the kinds below 10, which begin the items of a file, begin no expression
--     number_forms, truth_forms                   what is so of each form of a number, of a truth, is so of any
--     form_range, number_range, truth_range       a kind lies in the range of its form; the kinds of the numbers and of the truths
--     variable_named                              a variable's record names one of the file's
--     suits_above                               a divisor's record is a constant above 0 (C2.15)
--     is_sort-true, is_sort-one, is_sort-no       the test of a sort
--     has_sort                                    what has a sort is not without one
-- Assumes nothing.
use mathlib.Core.Path.{◌≡◌, refl, sym, ap, ◌∙◌}
use mathlib.Core.Bool.{Bool, true, false, cond, ◌&&◌, and-eq-true_iff, and-false}
use mathlib.Core.List.{List}
use Prim.Native.Nat.{ℕ, suc, ◌*◌, ◌+◌, ◌<◌, ◌≤◌}
use native.Mathlib.Omega.{arith}
use Rattle.truths.proofs.Laws.Truth.{by-test}
use borrow.Author.Tests.{ltb-true, leb-true, leb-false, eqb-true, le-leb, lt-leb, eq-eqb, ne_eqb}
use lib.Dec.{ltb, leb, eqb}
use lib.IntN.{pos}
use lib.Signed.{lt_z, ◌≤ℤ◌}
use Rattle.integers.proofs.Laws.Parts.{ints}
use Rattle.records.specs.declared.kinds.Signature.{Signature}
use Rattle.records.specs.Form.{Form}
use Rattle.records.specs.Form.Form.{Constant, Variable, Arithmetic, Indicator, Division, Literal, Negation, Connective, Comparison, Unfit}
use Rattle.records.specs.Record.{kind_at, field_a, value_b, zeros_of}
use Rattle.std.specs.declared.option.Option.{Option}
use Rattle.std.specs.declared.option.Option.TheVariants.{None, Some}
use Rattle.records.specs.declared.kinds.Sort.{Sort}
use Rattle.records.specs.declared.kinds.Sort.TheVariants.{Number, Truth, Divisor}
use Rattle.records.specs.declared.kinds.Operands.{Operands}
use Rattle.records.specs.declared.kinds.Operands.TheVariants.{Zero, One, Two}
use Rattle.records.specs.Kind.{within, number, truth, divisor, sort_for, same_sort, is_sort, count, row, signature_of}
use Rattle.records.specs.Form.{form_of, form_at, row_of}
use Rattle.records.specs.Walk.{expression_fields, suits}

-- ---- the form of a kind: past each range that it lies over or under, to the range that it lies in
module _ {A : Type 0} where
  hits : {lo hi kind : ℕ} {hit : A} (miss : A) → lo ≤ kind → kind ≤ hi → within lo hi kind hit miss ≡ hit
  unfolding within
  hits {lo} {hi} {kind} miss p q = simp (le-leb lo kind p, le-leb kind hi q)

  over : (lo : ℕ) {hi kind : ℕ} (hit : A) {miss form : A} → hi < kind → miss ≡ form → within lo hi kind hit miss ≡ form
  unfolding within
  over lo {hi} {kind} hit p e = simp (lt-leb kind hi p, and-false) e

  under : {lo : ℕ} (hi : ℕ) {kind : ℕ} (hit : A) {miss form : A} → kind < lo → miss ≡ form → within lo hi kind hit miss ≡ form
  unfolding within
  under {lo} hi {kind} hit p e = simp (lt-leb lo kind p) e

  -- two ranges, one behind the other, that say the same are one
  module _ (lo mid hi kind : ℕ) (hit miss : A) (l : lo ≤ mid) (m : mid < hi) where
    abbrev upper : A
    upper = within (suc mid) hi kind hit miss

    abbrev whole : A
    whole = within lo hi kind hit miss

    joined_lower : leb kind mid ≡ true → within lo mid kind hit upper ≡ whole
    joined_lower b =
        let y = leb-true kind mid b in
        by-test (leb lo kind) (λ _. within lo mid kind hit upper ≡ whole) (λ a. let x = leb-true lo kind a in hits _ x y ∙ sym (hits _ x (omega arith)))
        (λ a. let x = leb-false lo kind a in under _ _ x (under _ _ (omega arith) refl) ∙ sym (under _ _ x refl))

    joined_upper : leb kind mid ≡ false → within lo mid kind hit upper ≡ whole
    joined_upper b =
        let y = leb-false kind mid b in
        over _ _ y
        (by-test (leb kind hi) (λ _. upper ≡ whole) (λ c. let z = leb-true kind hi c in hits _ (omega arith) z ∙ sym (hits _ (omega arith) z))
        (λ c. let z = leb-false kind hi c in over _ _ z refl ∙ sym (over _ _ z refl)))

    joined : within lo mid kind hit upper ≡ whole
    joined = by-test (leb kind mid) (λ _. within lo mid kind hit upper ≡ whole) joined_lower joined_upper

-- the truths' ranges, which stand behind the numbers'
abbrev truths : ℕ → Form
truths kind =
    within 0x20 0x21 kind Literal
    (within 0x22 0x22 kind Negation
    (within 0x23 0x26 kind Connective
    (within 0x27 0x29 kind Comparison
    Unfit)))

module _ {kind : ℕ} where
  pub constant_form : kind ≡ 0x10 → form_of kind ≡ Constant
  unfolding form_of
  constant_form e = hits _ (omega arith) (omega arith)

  pub variable_form : kind ≡ 0x11 → form_of kind ≡ Variable
  unfolding form_of
  variable_form e = over _ _ (omega arith) (hits _ (omega arith) (omega arith))

  pub arithmetic_form : 0x12 ≤ kind → kind ≤ 0x14 → form_of kind ≡ Arithmetic
  unfolding form_of
  arithmetic_form l m = over _ _ (omega arith) (over _ _ (omega arith) (hits _ l m))

  pub indicator_form : kind ≡ 0x15 → form_of kind ≡ Indicator
  unfolding form_of
  indicator_form e = over _ _ (omega arith) (over _ _ (omega arith) (over _ _ (omega arith) (hits _ (omega arith) (omega arith))))

  over_indicator : {form : Form} → 0x15 < kind → within 0x18 0x19 kind Division (truths kind) ≡ form → form_of kind ≡ form
  unfolding form_of
  over_indicator p e = over _ _ (omega arith) (over _ _ (omega arith) (over _ _ (omega arith) (over _ _ p e)))

  pub division_form : 0x18 ≤ kind → kind ≤ 0x19 → form_of kind ≡ Division
  division_form l m = over_indicator (omega arith) (hits _ l m)

  over_numbers : {form : Form} → 0x19 < kind → truths kind ≡ form → form_of kind ≡ form
  over_numbers p e = over_indicator (omega arith) (over _ _ p e)

  under_truths : kind < 0x20 → truths kind ≡ Unfit
  under_truths p = under _ _ p (under _ _ (omega arith) (under _ _ (omega arith) (under _ _ (omega arith) refl)))

  pub literal_form : 0x20 ≤ kind → kind ≤ 0x21 → form_of kind ≡ Literal
  literal_form l m = over_numbers (omega arith) (hits _ l m)

  pub negation_form : kind ≡ 0x22 → form_of kind ≡ Negation
  negation_form e = over_numbers (omega arith) (over _ _ (omega arith) (hits _ (omega arith) (omega arith)))

  pub connective_form : 0x23 ≤ kind → kind ≤ 0x26 → form_of kind ≡ Connective
  connective_form l m = over_numbers (omega arith) (over _ _ (omega arith) (over _ _ (omega arith) (hits _ l m)))

  pub comparison_form : 0x27 ≤ kind → kind ≤ 0x29 → form_of kind ≡ Comparison
  comparison_form l m = over_numbers (omega arith) (over _ _ (omega arith) (over _ _ (omega arith) (over _ _ (omega arith) (hits _ l m))))

  pub unfit_below : kind < 0x10 → form_of kind ≡ Unfit
  unfolding form_of
  unfit_below l =
      under _ _ l (under _ _ (omega arith) (under _ _ (omega arith) (under _ _ (omega arith) (under _ _ (omega arith) (under_truths (omega arith))))))

  pub unfit_between : 0x15 < kind → kind < 0x18 → form_of kind ≡ Unfit
  unfit_between l m = over_indicator l (under _ _ m (under_truths (omega arith)))

  pub unfit_behind : 0x19 < kind → kind < 0x20 → form_of kind ≡ Unfit
  unfit_behind l m = over_numbers l (under_truths m)

  pub unfit_above : 0x29 < kind → form_of kind ≡ Unfit
  unfit_above l =
      over_numbers (omega arith) (over _ _ (omega arith) (over _ _ (omega arith) (over _ _ (omega arith) (over _ _ l refl))))

-- ---- the signature of a kind is its form's
row_within : (lo hi kind : ℕ) (hit miss : Form) {s : Signature} → row_of miss ≡ s
    → row_of (within lo hi kind hit miss) ≡ within lo hi kind (row_of hit) s
unfolding within
row_within lo hi kind hit miss {s} e = by_kind (leb lo kind && leb kind hi)
  where
    by_kind : (b : Bool) → row_of (cond b hit miss) ≡ cond b (row_of hit) s
    by_kind true = refl
    by_kind false = e

pub signature_form : (kind : ℕ) → signature_of kind ≡ row_of (form_of kind)
unfolding signature_of form_of
signature_form kind =
    sym
    (row_within 0x10 0x10 kind Constant _
    (row_within 0x11 0x11 kind Variable _
    (row_within 0x12 0x14 kind Arithmetic _
    (row_within 0x15 0x15 kind Indicator _
    (row_within 0x18 0x19 kind Division _
    (row_within 0x20 0x21 kind Literal _
    (row_within 0x22 0x22 kind Negation _
    (row_within 0x23 0x26 kind Connective _
    (row_within 0x27 0x29 kind Comparison _ refl))))))))
    ∙ joined 0x10 0x10 0x11 kind _ _ (omega arith) (omega arith))

pub signature_by : (kind : ℕ) {f : Form} → form_of kind ≡ f → signature_of kind ≡ row_of f
signature_by kind is = signature_form kind ∙ ap row_of is

pub leaf_signature : {kind : ℕ} → 0x10 ≤ kind → kind ≤ 0x11 → signature_of kind ≡ row number Zero
unfolding signature_of
leaf_signature l m = hits _ l m

-- a record that begins an item of the file begins no expression
pub head_none : {kind : ℕ} → kind < 0x10 → (signature_of kind).sort ≡ None
head_none l = rw (signature_by _ (unfit_below l)) refl

module _ (P : Form → Type 0) where
  by_number : P Constant → P Variable → P Arithmetic → P Indicator → P Division → (f : Form) → (row_of f).sort ≡ Some number → P f
  by_number c v a i d Constant e = c
  by_number c v a i d Variable e = v
  by_number c v a i d Arithmetic e = a
  by_number c v a i d Indicator e = i
  by_number c v a i d Division e = d
  by_number c v a i d Literal e = let z : ◌≡◌ {A = ℕ} 0 1 = cc in absurd (omega arith)
  by_number c v a i d Negation e = let z : ◌≡◌ {A = ℕ} 0 1 = cc in absurd (omega arith)
  by_number c v a i d Connective e = let z : ◌≡◌ {A = ℕ} 0 1 = cc in absurd (omega arith)
  by_number c v a i d Comparison e = let z : ◌≡◌ {A = ℕ} 0 1 = cc in absurd (omega arith)
  by_number c v a i d Unfit e = let z : ◌≡◌ {A = ℕ} 0 1 = cc in absurd (omega arith)

  by_truth : P Literal → P Negation → P Connective → P Comparison → (f : Form) → (row_of f).sort ≡ Some truth → P f
  by_truth l n c m Literal e = l
  by_truth l n c m Negation e = n
  by_truth l n c m Connective e = c
  by_truth l n c m Comparison e = m
  by_truth l n c m Constant e = let z : ◌≡◌ {A = ℕ} 0 1 = cc in absurd (omega arith)
  by_truth l n c m Variable e = let z : ◌≡◌ {A = ℕ} 0 1 = cc in absurd (omega arith)
  by_truth l n c m Arithmetic e = let z : ◌≡◌ {A = ℕ} 0 1 = cc in absurd (omega arith)
  by_truth l n c m Indicator e = let z : ◌≡◌ {A = ℕ} 0 1 = cc in absurd (omega arith)
  by_truth l n c m Division e = let z : ◌≡◌ {A = ℕ} 0 1 = cc in absurd (omega arith)
  by_truth l n c m Unfit e = let z : ◌≡◌ {A = ℕ} 0 1 = cc in absurd (omega arith)

  module _ (kind : ℕ) where
    pub number_forms : P Constant → P Variable → P Arithmetic → P Indicator → P Division → (signature_of kind).sort ≡ Some number → P (form_of kind)
    number_forms c v a i d s = by_number c v a i d (form_of kind) (rw (signature_form kind) at s)

    pub truth_forms : P Literal → P Negation → P Connective → P Comparison → (signature_of kind).sort ≡ Some truth → P (form_of kind)
    truth_forms l n c m s = by_truth l n c m (form_of kind) (rw (signature_form kind) at s)

-- ---- the kinds of a form
within_by : (P : Form → Type 0) (lo hi kind : ℕ) {hit miss : Form} → (lo ≤ kind → kind ≤ hi → P hit) → P miss → P (within lo hi kind hit miss)
unfolding within
within_by P lo hi kind {hit} {miss} h m = by_kind (leb lo kind && leb kind hi) refl
  where
    by_kind : (b : Bool) → (leb lo kind && leb kind hi) ≡ b → P (cond b hit miss)
    by_kind true e = let p = (and-eq-true_iff (leb lo kind) (leb kind hi)).0 e in h (leb-true lo kind p.0) (leb-true kind hi p.1)
    by_kind false e = m

abbrev pub Range : ℕ → Form → Type 0
Range kind Constant = kind ≡ 0x10
Range kind Variable = kind ≡ 0x11
Range kind Arithmetic = (0x12 ≤ kind) × (kind ≤ 0x14)
Range kind Indicator = kind ≡ 0x15
Range kind Division = (0x18 ≤ kind) × (kind ≤ 0x19)
Range kind Literal = (0x20 ≤ kind) × (kind ≤ 0x21)
Range kind Negation = kind ≡ 0x22
Range kind Connective = (0x23 ≤ kind) × (kind ≤ 0x26)
Range kind Comparison = (0x27 ≤ kind) × (kind ≤ 0x29)
Range kind Unfit = Unit {0}

module _ (kind : ℕ) where
  in_range_lem : Range kind (form_of kind)
  unfolding form_of
  in_range_lem =
      within_by (Range kind) 0x10 0x10 kind (λ l m. omega arith)
      (within_by (Range kind) 0x11 0x11 kind (λ l m. omega arith)
      (within_by (Range kind) 0x12 0x14 kind (λ l m. (l, m))
      (within_by (Range kind) 0x15 0x15 kind (λ l m. omega arith)
      (within_by (Range kind) 0x18 0x19 kind (λ l m. (l, m))
      (within_by (Range kind) 0x20 0x21 kind (λ l m. (l, m))
      (within_by (Range kind) 0x22 0x22 kind (λ l m. omega arith)
      (within_by (Range kind) 0x23 0x26 kind (λ l m. (l, m))
      (within_by (Range kind) 0x27 0x29 kind (λ l m. (l, m))
      tt))))))))

  pub form_range : {f : Form} → form_of kind ≡ f → Range kind f
  form_range is = rw is at in_range_lem

  -- none lies between the indicator and the divisions
  pub number_range : (signature_of kind).sort ≡ Some number → (0x10 ≤ kind) × (kind ≤ 0x19) × (kind < 0x18 → kind ≤ 0x15)
  number_range s =
      number_forms (λ f. Range kind f → (0x10 ≤ kind) × (kind ≤ 0x19) × (kind < 0x18 → kind ≤ 0x15)) kind
      (λ r. (omega arith, omega arith, λ l. omega arith)) (λ r. (omega arith, omega arith, λ l. omega arith))
      (λ r. (omega arith, omega arith, λ l. omega arith)) (λ r. (omega arith, omega arith, λ l. omega arith))
      (λ r. (omega arith, omega arith, λ l. omega arith)) s in_range_lem

  pub truth_range : (signature_of kind).sort ≡ Some truth → (0x20 ≤ kind) × (kind ≤ 0x29)
  truth_range s =
      truth_forms (λ f. Range kind f → (0x20 ≤ kind) × (kind ≤ 0x29)) kind (λ r. (omega arith, omega arith)) (λ r. (omega arith, omega arith))
      (λ r. (omega arith, omega arith)) (λ r. (omega arith, omega arith)) s in_range_lem

-- a variable's record, in an expression that walks, names one of the file's variables
pub variable_named : (file : List ℕ) (vars at : ℕ) → form_at file at ≡ Variable → expression_fields file vars at ≡ true → field_a file at < vars
unfolding expression_fields
variable_named file vars at f e =
    let k : kind_at file at ≡ 0x11 = form_range (kind_at file at) f in
    let n : kind_at file at ≡ 0x10 → ⊥ = λ z. omega arith in
    ltb-true _ _ ((and-eq-true_iff (ltb (field_a file at) vars) (zeros_of file (8 * at + 2) 6)).0 (simp (ne_eqb _ _ n, eq-eqb _ _ k) at e)).0

-- a record that is asked to be a divisor, in an expression that walks
pub suits_above : (file : List ℕ) (at : ℕ) → suits file divisor at ≡ true → (form_at file at ≡ Constant) × (pos 1 ≤ℤ value_b file at)
unfolding suits
suits_above file at t =
    let b = (and-eq-true_iff (eqb (kind_at file at) 0x10) (lt_z (pos 0) (value_b file at))).0 t in
    (constant_form (eqb-true _ _ b.0), omega ints)

-- ---- the test of a sort
same_sort-true : (s t : Sort) → same_sort s t ≡ true → s ≡ t
same_sort-true Number Number e = refl
same_sort-true Number Truth e = let z : ◌≡◌ {A = ℕ} 0 1 = cc in absurd (omega arith)
same_sort-true Number Divisor e = let z : ◌≡◌ {A = ℕ} 0 1 = cc in absurd (omega arith)
same_sort-true Truth Number e = let z : ◌≡◌ {A = ℕ} 0 1 = cc in absurd (omega arith)
same_sort-true Truth Truth e = refl
same_sort-true Truth Divisor e = let z : ◌≡◌ {A = ℕ} 0 1 = cc in absurd (omega arith)
same_sort-true Divisor Number e = let z : ◌≡◌ {A = ℕ} 0 1 = cc in absurd (omega arith)
same_sort-true Divisor Truth e = let z : ◌≡◌ {A = ℕ} 0 1 = cc in absurd (omega arith)
same_sort-true Divisor Divisor e = refl

same_sort-one : (s : Sort) → same_sort s s ≡ true
same_sort-one Number = refl
same_sort-one Truth = refl
same_sort-one Divisor = refl

pub is_sort-true : (o : Option Sort) (sort : Sort) → is_sort o sort ≡ true → o ≡ Some sort
is_sort-true None sort e = let z : ◌≡◌ {A = ℕ} 0 1 = cc in absurd (omega arith)
is_sort-true (Some s) sort e = ap Some (same_sort-true s sort e)

pub is_sort-one : (o : Option Sort) (sort : Sort) → o ≡ Some sort → is_sort o sort ≡ true
is_sort-one o sort e = rw e (same_sort-one sort)

pub is_sort-no : (o : Option Sort) (sort : Sort) → (o ≡ Some sort → ⊥) → is_sort o sort ≡ false
is_sort-no o sort h = by-test (is_sort o sort) (λ b. b ≡ false) (λ e. absurd (h (is_sort-true o sort e))) (λ e. refl)

pub has_sort : {o : Option Sort} {sort : Sort} → o ≡ Some sort → o ≡ None → ⊥
has_sort is none = let z : ◌≡◌ {A = ℕ} 0 1 = cc in omega arith
