-- The evaluators at one record: the answers for its operands make the answer for the whole. Assumes nothing.
use mathlib.Core.Path.{◌≡◌, refl, sym, ap, ◌∙◌}
use mathlib.Core.List.{List}
use mathlib.Core.Bool.{Bool, true, false, not}
use Prim.Native.Nat.{ℕ, suc, ◌+◌, ◌-◌}
use lib.ListN.{get_or}
use lib.Dec.{eqb}
use lib.IntN.{ℤ, pos}
use mir.Val.{bool_byte}
use Rattle.integers.specs.Interval.{bounds}
use Rattle.integers.specs.Inside.{In}
use Rattle.records.specs.Form.{Form}
use Rattle.records.specs.Form.Form.{Constant, Variable, Arithmetic, Indicator, Division, Literal, Negation, Connective, Comparison}
use Rattle.records.specs.Record.{kind_at, field_a, value_b}
use Rattle.records.specs.declared.kinds.Sort.{Sort}
use Rattle.records.specs.Kind.{number as number_sort, divisor as divisor_sort}
use Rattle.records.specs.Form.{form_of, form_at}
use Rattle.intervals.specs.Interval.{combine, divide}
use Rattle.expressions.specs.Expression.{part_at, indicator_of, connect_of, compare_of, number, truth}
use Rattle.expressions.specs.Fits.{Fits}
use Rattle.expressions.proofs.Laws.Expression.{first_is, number_constant, number_variable, number_arithmetic, number_indicator, number_division}
use Rattle.expressions.proofs.Laws.Expression.{truth_literal, truth_negation, truth_connective, truth_comparison, fits_small, divisor_worth}
use Rattle.expressions.proofs.Laws.Operand.{Asked, Two, level}

-- ---- an indicator's number, as `i64::from` has it
from_bool_is : (x : Bool) → pos (bool_byte x) ≡ indicator_of x
unfolding indicator_of
from_bool_is true = refl
from_bool_is false = refl

-- ---- the answers
module _ (levels : ℕ) (want : Sort) (part table : List ℕ) (at : ℕ) (state : List ℤ) (h : Asked levels want part table at state) where
  abbrev here : levels ≡ suc (levels - 1)
  here = level levels want part table at state h

  pub constant_is : form_at part 0 ≡ Constant → value_b part 0 ≡ number levels part state
  constant_is is = sym (number_constant here part state is)

  pub variable_is : form_at part 0 ≡ Variable → get_or state (field_a part 0) (pos 0) ≡ number levels part state
  variable_is is = sym (number_variable here part state is)

  pub literal_is : {kind : ℕ} → kind_at part 0 ≡ kind → form_of kind ≡ Literal → eqb kind 0x20 ≡ truth levels part state
  literal_is is f = rw (← is, truth_literal here part state (ap form_of is ∙ f))

  module _ {p : List ℕ} (e : p ≡ part_at part 1) {x : Bool} (a : x ≡ truth (levels - 1) p state) where
    pub indicator_is : form_at part 0 ≡ Indicator → pos (bool_byte x) ≡ number levels part state
    indicator_is is = rw (from_bool_is, a, e, number_indicator here part state is, first_is part)

    pub negation_is : form_at part 0 ≡ Negation → not x ≡ truth levels part state
    negation_is is = rw (a, e, truth_negation here part state is, first_is part)

module _ {levels : ℕ} {i j : Sort} {f : Form} {part table : List ℕ} {at : ℕ} {p : List ℕ} {state : List ℤ} (t : Two levels i j f part table at p state)
    {kind : ℕ} (is : kind_at part 0 ≡ kind) where
  module _ {q : List ℕ} (d : q ≡ part_at part (1 + get_or table (at + 1) 0)) where
    module _ {x y : ℤ} (a : x ≡ number (levels - 1) p state) (b : y ≡ number (levels - 1) q state) where
      pub arithmetic_is : f ≡ Arithmetic → combine kind x y ≡ number levels part state
      arithmetic_is k = rw (← is, b, t.second d, a, t.first, number_arithmetic t.level part state (t.is ∙ k))

      pub comparison_is : f ≡ Comparison → compare_of kind x y ≡ truth levels part state
      comparison_is k = rw (← is, b, t.second d, a, t.first, truth_comparison t.level part state (t.is ∙ k))

    pub connective_is : {x y : Bool} → x ≡ truth (levels - 1) p state → y ≡ truth (levels - 1) q state → f ≡ Connective
        → connect_of kind x y ≡ truth levels part state
    connective_is a b k = rw (← is, b, t.second d, a, t.first, truth_connective t.level part state (t.is ∙ k))

  -- of a connective whose right operand was not looked at
  pub decided_is : {x : Bool} → x ≡ truth (levels - 1) p state → f ≡ Connective
      → connect_of kind x (truth (levels - 1) (part_at part (1 + get_or table (at + 1) 0)) state) ≡ truth levels part state
  decided_is a k = connective_is refl a refl k

-- ---- the operands of a sum, a difference or a product are small
number_small : (levels : ℕ) (part : List ℕ) (state : List ℤ) → Fits levels number_sort part state → {x : ℤ} → x ≡ number levels part state → In x bounds
number_small levels part state h e = rw e (fits_small levels part state h)

module _ {levels : ℕ} {f : Form} {part table : List ℕ} {at : ℕ} {p : List ℕ} {state : List ℤ} (t : Two levels number_sort number_sort f part table at p state)
  where
    pub left_small : {x : ℤ} → x ≡ number (levels - 1) p state → In x bounds
    left_small a = number_small (levels - 1) p state t.left.0 a

    pub right_small : {q : List ℕ} → q ≡ part_at part (1 + get_or table (at + 1) 0) → {y : ℤ} → y ≡ number (levels - 1) q state → In y bounds
    right_small {q} d b = number_small (levels - 1) q state (t.right d).0 b

-- ---- a quotient or remainder by the constant that its second operand is
module _ {levels : ℕ} {part table : List ℕ} {at : ℕ} {p : List ℕ} {state : List ℤ} (t : Two levels number_sort divisor_sort Division part table at p state)
    {q : List ℕ} (d : q ≡ part_at part (1 + get_or table (at + 1) 0)) where
  pub division_is : {kind : ℕ} → kind_at part 0 ≡ kind → {x : ℤ} → x ≡ number (levels - 1) p state → divide kind x (value_b q 0) ≡ number levels part state
  division_is is a =
      rw (← is, ← divisor_worth (levels - 1) q state (t.right d).0, t.second d, a, t.first, number_division t.level part state t.is)
