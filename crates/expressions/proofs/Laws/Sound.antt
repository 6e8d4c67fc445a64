-- Intervals are sound: in a state whose values lie in the ranges, an expression of a readable file fits, and a number lies in its interval.
--     expression_fits               it fits: its records are there, their kinds fit, every number is small, and no divisor is below 1
--     number_in                     a number lies in its interval, a divisor too
--     indicator_in_lem, constant_in     indicators and constants lie in theirs
-- Assumes nothing.
use mathlib.Core.Path.{◌≡◌, refl, sym, ap, ◌∙◌}
use mathlib.Core.List.{List}
use mathlib.Core.Bool.{Bool, cond}
use Prim.Native.Nat.{ℕ, zero, suc, ◌+◌, ◌*◌, ◌/◌, ◌<◌, ◌≤◌}
use native.Mathlib.Omega.{arith}
use lib.IntN.{ℤ, pos}
use lib.ListN.{length, get_or, length-drop}
use lib.Seq.{get_or-drop, drop-drop}
use lib.Signed.{≤ℤ_refl}
use Rattle.std.specs.declared.option.Option.TheVariants.{Some}
use Rattle.integers.specs.declared.Interval.{Interval}
use Rattle.integers.specs.Inside.{In}
use Rattle.truths.proofs.Laws.Truth.{by-test}
use Rattle.integers.proofs.Laws.Parts.{ints}
use Rattle.integers.proofs.Laws.Interval.{in_bounds_lem}
use Rattle.records.specs.Form.{Form}
use Rattle.records.specs.Form.Form.{Constant, Variable, Arithmetic, Indicator, Division}
use Rattle.records.specs.Record.{kind_at, field_a, value_b, value_c}
use Rattle.records.specs.declared.kinds.Sort.{Sort}
use Rattle.records.specs.declared.kinds.Operands.{Operands as SortOperands}
use Rattle.records.specs.declared.kinds.Operands.TheVariants.{Two}
use Rattle.records.specs.Kind.{count, row, sort_for, signature_of, signature_at, number as number_sort, divisor as divisor_sort}
use Rattle.records.specs.Form.{form_at, row_of}
use Rattle.records.specs.Walk.{span}
use Rattle.records.proofs.Laws.Kind.{number_forms, signature_by}
use Rattle.records.proofs.Laws.Span.{kind_part, form_part}
use Rattle.intervals.specs.Interval.{interval, unit}
use Rattle.intervals.specs.Expression.{Expression, Operands}
use Rattle.intervals.proofs.Laws.Combine.{leaf_constant, leaf_variable, join_arithmetic, join_division, combine_in_lem, divisor_is, divide_in_lem}
use Rattle.intervals.proofs.Laws.Expression.{expression_opens, expression_deepest, expression_bounded, expression_span, expression_divisor}
use Rattle.expressions.specs.Expression.{part_at, first_operand, second_operand, indicator_of, number}
use Rattle.expressions.specs.Fits.{OperandsFit, Fits}
use Rattle.expressions.proofs.Laws.Expression.{number_constant, number_variable, number_arithmetic, number_indicator, number_division}

-- ---- the fields of a part's record are the file's, and its parts are
module _ (file : List ℕ) (at : ℕ) where
  pub variable_part : field_a (part_at file at) 0 ≡ field_a file at
  variable_part = get_or-drop (8 * at) file 1 0

  pub value_part : value_b (part_at file at) 0 ≡ value_b file at
  value_part =
      let z : 8 * at + 2 + 1 ≡ 8 * at + 3 = omega arith in
      rw (get_or-drop (8 * at) file 2 0, get_or-drop (8 * at) file 3 0, z)

  pub part_part : (k : ℕ) → part_at (part_at file at) k ≡ part_at file (at + k)
  part_part k = let z : 8 * at + 8 * k ≡ 8 * (at + k) = omega arith in drop-drop (8 * k) (8 * at) file ∙ rw z

  pub first_part : first_operand (part_at file at) ≡ part_at file (at + 1)
  unfolding first_operand
  first_part = part_part 1

  pub second_part : (levels mid : ℕ) → mid ≡ at + 1 + span levels (part_at file (at + 1)) → second_operand levels (part_at file at) ≡ part_at file mid
  unfolding second_operand
  second_part levels mid e =
      let n = span levels (part_at file (at + 1)) in
      let z : at + (1 + n) ≡ mid = omega arith in
      rw first_part (part_part (1 + n) ∙ rw z)

  pub part_length : at < length file / 8 → 8 ≤ length (part_at file at)
  part_length l = omega (arith, length-drop (8 * at) file)

-- ---- the indicator and the constant
pub indicator_in_lem : (p : Bool) → In (indicator_of p) unit
unfolding indicator_of
indicator_in_lem p =
    by-test p (λ t. In (cond t (pos 1) (pos 0)) unit) (λ e. record { above = omega ints; below = omega ints })
    (λ e. record { above = omega ints; below = omega ints })

pub constant_in : (x : ℤ) → In x (interval x x)
constant_in x = record { above = ≤ℤ_refl x; below = ≤ℤ_refl x }

-- ---- the values of the file's variables lie in their ranges
module _ (file : List ℕ) (vars : ℕ) (most : vars ≤ 12) (state : List ℤ)
    (inside : (v : ℕ) → v < vars → In (get_or state v (pos 0)) (interval (value_b file v) (value_c file v))) where
  -- what is to be shown of an expression
  record Sound (levels : ℕ) (want : Sort) (at : ℕ) (i : Interval) : Type 0 where
    fits : Fits levels want (part_at file at) state
    number_lies : sort_for want ≡ number_sort → In (number levels (part_at file at) state) i

  module _ (levels at end : ℕ) (ih : (want : Sort) (at end : ℕ) (i : Interval) → Expression file vars levels want at end i → Sound levels want at i) where
    second_at : {want : Sort} {mid : ℕ} {j : Interval} → Expression file vars levels want (at + 1) mid j
        → second_operand levels (part_at file at) ≡ part_at file mid
    second_at {want} {mid} {j} x = second_part file at levels mid (expression_span file vars want (at + 1) mid x)

    operands_fit : {i : Interval} → Operands file vars levels at end i
        → OperandsFit (λ sort p. Fits levels sort p state) levels (part_at file at) (signature_at file at).operands
    unfolding OperandsFit
    operands_fit (Operands.none m e) = rw m tt
    operands_fit (Operands.one {a} {j} m x) = rw (m, first_part file at) (ih _ _ _ _ x).fits
    operands_fit (Operands.two {a} {b} {mid} {j} {k} m x y) = rw (m, first_part file at, second_at x) ((ih _ _ _ _ x).fits, (ih _ _ _ _ y).fits)

    -- ---- the number, by its form
    abbrev Lies : Form → Type 0
    Lies f = (i : Interval) → form_at file at ≡ f → Operands file vars levels at end i → In (number (suc levels) (part_at file at) state) i

    form_at_lem : {f : Form} → form_at file at ≡ f → form_at (part_at file at) 0 ≡ f
    form_at_lem is = form_part file at ∙ is

    operands_at : {f : Form} {own : Sort} {p q : SortOperands} → form_at file at ≡ f → row_of f ≡ row own p → (signature_at file at).operands ≡ q
        → p ≡ q
    operands_at is r m = rw (signature_by (kind_at file at) is, r) at m

    count_at : {f : Form} {own : Sort} {p q : SortOperands} → form_at file at ≡ f → row_of f ≡ row own p → (signature_at file at).operands ≡ q
        → count p ≡ count q
    count_at is r m = ap count (operands_at is r m)

    constant_lies : Lies Constant
    constant_lies i is (Operands.none m e) =
        rw (number_constant {below = levels} refl (part_at file at) state (form_at_lem is), leaf_constant file at is, value_part file at)
        (constant_in (value_b file at))
    constant_lies i is (Operands.one {a} {j} m x) = absurd (omega (arith, count_at is refl m))
    constant_lies i is (Operands.two {a} {b} {mid} {j} {k} m x y) = absurd (omega (arith, count_at is refl m))

    variable_lies : (form_at file at ≡ Variable → field_a file at < vars) → Lies Variable
    variable_lies named i is (Operands.none m e) =
        rw (number_variable {below = levels} refl (part_at file at) state (form_at_lem is), leaf_variable file at is, variable_part file at)
        (inside (field_a file at) (named is))
    variable_lies named i is (Operands.one {a} {j} m x) = absurd (omega (arith, count_at is refl m))
    variable_lies named i is (Operands.two {a} {b} {mid} {j} {k} m x y) = absurd (omega (arith, count_at is refl m))

    arithmetic_lies : Lies Arithmetic
    arithmetic_lies i is (Operands.none m e) = absurd (omega (arith, count_at is refl m))
    arithmetic_lies i is (Operands.one {a} {j} m x) = absurd (omega (arith, count_at is refl m))
    arithmetic_lies i is (Operands.two {a} {b} {mid} {j} {k} m x y) =
        let both : Two number_sort number_sort ≡ Two a b = operands_at is refl m in
        let first : a ≡ number_sort = cc in
        let second : b ≡ number_sort = cc in
        let operands_in = combine_in_lem (kind_at file at) ((ih _ _ _ _ x).number_lies (rw first)) ((ih _ _ _ _ y).number_lies (rw second)) in
        rw (
          number_arithmetic {below = levels} refl (part_at file at) state (form_at_lem is),
          join_arithmetic (kind_at file at) is,
          kind_part file at,
          first_part file at,
          second_at x,
        )
        operands_in

    indicator_lies : Lies Indicator
    indicator_lies i is (Operands.none m e) = absurd (omega (arith, count_at is refl m))
    indicator_lies i is (Operands.one {a} {j} m x) =
        rw (number_indicator {below = levels} refl (part_at file at) state (form_at_lem is)) (indicator_in_lem _)
    indicator_lies i is (Operands.two {a} {b} {mid} {j} {k} m x y) = absurd (omega (arith, count_at is refl m))

    division_lies : Lies Division
    division_lies i is (Operands.none m e) = absurd (omega (arith, count_at is refl m))
    division_lies i is (Operands.one {a} {j} m x) = absurd (omega (arith, count_at is refl m))
    division_lies i is (Operands.two {a} {b} {mid} {j} {k} m x y) =
        let both : Two number_sort divisor_sort ≡ Two a b = operands_at is refl m in
        let first : a ≡ number_sort = cc in
        let second : b ≡ divisor_sort = cc in
        let d = expression_divisor file vars mid end levels (rw second at y) in
        let in_second = rw d.alone at ((ih _ _ _ _ y).number_lies (rw second)) in
        let worth : number levels (part_at file mid) state ≡ value_b file mid = omega (ints, in_second.above, in_second.below) in
        rw (
          number_division {below = levels} refl (part_at file at) state (form_at_lem is),
          join_division (kind_at file at) is,
          kind_part file at,
          first_part file at,
          second_at x,
          worth,
          d.alone,
          divisor_is (value_b file mid) d.above,
        )
        (divide_in_lem (kind_at file at) (value_b file mid) d.above ((ih _ _ _ _ x).number_lies (rw first)))

  sound : (levels : ℕ) (want : Sort) (at end : ℕ) (i : Interval) → Expression file vars levels want at end i → Sound levels want at i
  unfolding Fits
  sound zero want at end i x = absurd (expression_deepest file vars want at end x)
  sound (suc levels) want at end i x =
      let o = expression_opens file vars levels at end x in
      let ih = sound levels in
      let lies : sort_for want ≡ number_sort → In (number (suc levels) (part_at file at) state) i =
      λ w. number_forms (Lies levels at end ih) (kind_at file at) (constant_lies levels at end ih) (variable_lies levels at end ih o.variable)
      (arithmetic_lies levels at end ih) (indicator_lies levels at end ih) (division_lies levels at end ih) (o.sort ∙ ap Some w) i refl o.operands in
      record {
        fits = (
          record {
            there = part_length file at o.here;
            sort = ap (λ k. (signature_of k).sort) (kind_part file at) ∙ o.sort;
            variable = λ v. rw (variable_part file at) (let l = o.variable (sym (form_part file at) ∙ v) in omega arith);
            divisor = λ w. rw (form_part file at, value_part file at) (o.divisor w);
          },
          λ w. in_bounds_lem (expression_bounded file vars want at end x) (lies w),
          rw (kind_part file at) (operands_fit levels at end ih o.operands),
        );
        number_lies = lies;
      }

  module _ (levels : ℕ) (want : Sort) (at end : ℕ) (i : Interval) (x : Expression file vars levels want at end i) where
    pub expression_fits : Fits levels want (part_at file at) state
    expression_fits = (sound levels want at end i x).fits

    pub number_in : sort_for want ≡ number_sort → In (number levels (part_at file at) state) i
    number_in = (sound levels want at end i x).number_lies
