-- What is known of an expression on a box is so in each of its states where the expression fits.
--     number_in_opens, truth_in_opens     it comes from what is known of the operands
--     number_bounded                      an extent lies in bounds
--     number_inside                       a number lies in its extent
--     truth_said                          a truth is what is said of it
--     yes_true, no_false                  so what is seen to hold is true, and what is seen not to hold is false
--     seen_said                           the same of a truth expression of a file
-- Assumes nothing.
use mathlib.Core.Path.{◌≡◌, refl}
use mathlib.Core.List.{List}
use mathlib.Core.Bool.{true, false}
use Prim.Native.Nat.{ℕ, zero, suc}
use native.Mathlib.Omega.{arith}
use lib.ListN.{get_or}
use lib.IntN.{ℤ, pos}
use Rattle.integers.specs.Interval.{bounds}
use Rattle.integers.specs.Inside.{In, Bounded}
use Rattle.records.specs.Form.{Form}
use Rattle.records.specs.Form.Form.{Constant, Variable, Arithmetic, Indicator, Division, Literal, Negation, Connective, Comparison, Unfit}
use Rattle.records.specs.Record.{kind_at, field_a}
use Rattle.records.specs.Kind.{number as number_sort, truth as truth_sort}
use Rattle.records.specs.Form.{form_at}
use Rattle.records.proofs.Laws.Kind.{number_forms, truth_forms}
use Rattle.intervals.specs.Interval.{interval}
use Rattle.expressions.specs.Expression.{part_at, number, truth, holds_of}
use Rattle.expressions.specs.Fits.{Fits}
use Rattle.expressions.proofs.Laws.Expression.{number_constant, number_variable, number_arithmetic, number_indicator, number_division, truth_literal}
use Rattle.expressions.proofs.Laws.Expression.{truth_negation, truth_connective, truth_comparison, holds_is, fits_level, fits_record, fits_small, fits_one}
use Rattle.expressions.proofs.Laws.Expression.{fits_two, divisor_above, divisor_worth}
use Rattle.expressions.proofs.Laws.Sound.{constant_in}
use Rattle.states.proofs.Laws.State.{within_at}
use Rattle.boxes.specs.declared.Box.{Box}
use Rattle.boxes.specs.Box.{Inside}
use Rattle.domains.specs.declared.seen.Seen.{Seen}
use Rattle.domains.specs.declared.seen.Seen.TheVariants.{Yes, No}
use Rattle.domains.specs.declared.extents.Extent.{Extent}
use Rattle.domains.specs.Seen.{Says}
use Rattle.enclosures.specs.Enclosure.{number_in_by, truth_in_by, number_in, truth_in, seen_of}
use Rattle.domains.proofs.Laws.Seen.{yes_says, no_says, literal_says, opposite_says, connect_says}
use Rattle.domains.proofs.Laws.Extent.{extent_bounded, extent_in, combine_bounded, divide_bounded, indicator_bounded, combine_in_extent}
use Rattle.domains.proofs.Laws.Extent.{divide_in_extent, indicator_in_extent, compare_says}

-- ---- opened
module _ {levels below : ℕ} (e : levels ≡ suc below) (part : List ℕ) (b : Box) {f : Form} (is : form_at part 0 ≡ f) where
  pub number_in_opens : number_in levels part b ≡ number_in_by below (λ p. number_in below p b) (λ p. truth_in below p b) f part b
  unfolding number_in
  number_in_opens = rw (e, is)

  pub truth_in_opens : truth_in levels part b ≡ truth_in_by below (λ p. number_in below p b) (λ p. truth_in below p b) f part
  unfolding truth_in
  truth_in_opens = rw (e, is)

-- ---- an extent lies in bounds
bounded_by : (levels : ℕ) (N : List ℕ → Extent) (T : List ℕ → Seen) (f : Form) (part : List ℕ) (b : Box) → Bounded (number_in_by levels N T f part b).span
unfolding number_in_by
bounded_by levels N T Constant part b = extent_bounded _ _ _
bounded_by levels N T Variable part b = extent_bounded _ _ _
bounded_by levels N T Arithmetic part b = combine_bounded _ _ _
bounded_by levels N T Indicator part b = indicator_bounded _
bounded_by levels N T Division part b = divide_bounded _ _ _
bounded_by levels N T Literal part b = extent_bounded _ _ _
bounded_by levels N T Negation part b = extent_bounded _ _ _
bounded_by levels N T Connective part b = extent_bounded _ _ _
bounded_by levels N T Comparison part b = extent_bounded _ _ _
bounded_by levels N T Unfit part b = extent_bounded _ _ _

pub number_bounded : (levels : ℕ) (part : List ℕ) (b : Box) → Bounded (number_in levels part b).span
unfolding number_in
number_bounded zero part b = extent_bounded _ _ _
number_bounded (suc levels) part b = bounded_by levels _ _ (form_at part 0) part b

-- ---- the states of a box
module _ {b : Box} {state : List ℤ} (inside : Inside b state) where
  in_range_lem : (v : ℕ) → In (get_or state v (pos 0)) (interval (get_or b.low v (pos 0)) (get_or b.high v (pos 0)))
  in_range_lem v = let w = within_at inside v in record { above = w.0; below = w.1 }

  -- what is to be shown of the expressions of so many levels
  record Sound (levels : ℕ) : Type 0 where
    numbers : (part : List ℕ) → Fits levels number_sort part state → In (number levels part state) (number_in levels part b).span
    truths : (part : List ℕ) → Fits levels truth_sort part state → Says (truth_in levels part b) (truth levels part state)

  module _ (levels : ℕ) (ih : Sound levels) (part : List ℕ) where
    -- ---- a number, by the form of its record
    module _ (h : Fits (suc levels) number_sort part state) where
      abbrev Lies : Form → Type 0
      Lies f = form_at part 0 ≡ f → In (number (suc levels) part state) (number_in (suc levels) part b).span

      small : In (number (suc levels) part state) bounds
      small = fits_small (suc levels) part state h

      constant_lies : Lies Constant
      unfolding number_in_by
      constant_lies is =
          rw (number_in_opens {below = levels} refl part b is)
          (extent_in _ _ _ small (rw (number_constant {below = levels} refl part state is) (constant_in _)))

      variable_lies : Lies Variable
      unfolding number_in_by
      variable_lies is =
          rw (number_in_opens {below = levels} refl part b is)
          (extent_in _ _ _ small (rw (number_variable {below = levels} refl part state is) (in_range_lem (field_a part 0))))

      arithmetic_lies : Lies Arithmetic
      unfolding number_in_by
      arithmetic_lies is =
          let n = number_arithmetic {below = levels} refl part state is in
          let o = fits_two {below = levels} refl part state is number_sort h refl in
          rw (number_in_opens {below = levels} refl part b is, n)
          (combine_in_extent _ _ _ (rw n at small) (ih.numbers _ o.0) (ih.numbers _ o.1))

      indicator_lies : Lies Indicator
      unfolding number_in_by
      indicator_lies is =
          let n = number_indicator {below = levels} refl part state is in
          let o = fits_one {below = levels} refl part state is number_sort h refl in
          rw (number_in_opens {below = levels} refl part b is, n) (indicator_in_extent _ _ (ih.truths _ o) (rw n at small))

      division_lies : Lies Division
      unfolding number_in_by
      division_lies is =
          let o = fits_two {below = levels} refl part state is number_sort h refl in
          let n = rw (divisor_worth levels _ state o.1) at (number_division {below = levels} refl part state is) in
          rw (number_in_opens {below = levels} refl part b is, n)
          (divide_in_extent _ _ _ (divisor_above levels _ state o.1) (ih.numbers _ o.0) (rw n at small))

      number_lies : In (number (suc levels) part state) (number_in (suc levels) part b).span
      number_lies =
          number_forms Lies (kind_at part 0) constant_lies variable_lies arithmetic_lies indicator_lies division_lies
          (fits_record (suc levels) number_sort part state h).sort refl

    -- ---- and a truth
    module _ (h : Fits (suc levels) truth_sort part state) where
      abbrev Said : Form → Type 0
      Said f = form_at part 0 ≡ f → Says (truth_in (suc levels) part b) (truth (suc levels) part state)

      literal_said : Said Literal
      unfolding truth_in_by
      literal_said is =
          rw (truth_in_opens {below = levels} refl part b is, truth_literal {below = levels} refl part state is) (literal_says (kind_at part 0))

      negation_said : Said Negation
      unfolding truth_in_by
      negation_said is =
          let o = fits_one {below = levels} refl part state is truth_sort h refl in
          rw (truth_in_opens {below = levels} refl part b is, truth_negation {below = levels} refl part state is) (opposite_says _ _ (ih.truths _ o))

      connective_said : Said Connective
      unfolding truth_in_by
      connective_said is =
          let o = fits_two {below = levels} refl part state is truth_sort h refl in
          rw (truth_in_opens {below = levels} refl part b is, truth_connective {below = levels} refl part state is)
          (connect_says _ _ _ _ _ (ih.truths _ o.0) (ih.truths _ o.1))

      comparison_said : Said Comparison
      unfolding truth_in_by
      comparison_said is =
          let o = fits_two {below = levels} refl part state is truth_sort h refl in
          rw (truth_in_opens {below = levels} refl part b is, truth_comparison {below = levels} refl part state is)
          (compare_says _ _ _ _ _ (ih.numbers _ o.0) (ih.numbers _ o.1))

      truth_is_said : Says (truth_in (suc levels) part b) (truth (suc levels) part state)
      truth_is_said =
          truth_forms Said (kind_at part 0) literal_said negation_said connective_said comparison_said
          (fits_record (suc levels) truth_sort part state h).sort refl

  sound : (levels : ℕ) → Sound levels
  sound zero =
      record {
        numbers = λ part h. absurd (omega (arith, fits_level zero number_sort part state h));
        truths = λ part h. absurd (omega (arith, fits_level zero truth_sort part state h));
      }
  sound (suc levels) = record { numbers = number_lies levels (sound levels); truths = truth_is_said levels (sound levels) }

  module _ (levels : ℕ) (part : List ℕ) where
    pub number_inside : Fits levels number_sort part state → In (number levels part state) (number_in levels part b).span
    number_inside h = (sound levels).numbers part h

    pub truth_said : Fits levels truth_sort part state → Says (truth_in levels part b) (truth levels part state)
    truth_said h = (sound levels).truths part h

    pub yes_true : Fits levels truth_sort part state → truth_in levels part b ≡ Yes → truth levels part state ≡ true
    yes_true h e = yes_says (truth_said h) e

    pub no_false : Fits levels truth_sort part state → truth_in levels part b ≡ No → truth levels part state ≡ false
    no_false h e = no_says (truth_said h) e

  pub seen_said : (file : List ℕ) (at : ℕ) → Fits 16 truth_sort (part_at file at) state → Says (seen_of file at b) (holds_of file at state)
  unfolding seen_of
  seen_said file at h = rw (holds_is file at state) (truth_said 16 (part_at file at) h)
