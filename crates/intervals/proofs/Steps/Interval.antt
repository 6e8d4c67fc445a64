-- One step of `analysis_of`, by the tests in their order: what a record with s, whose signature is known, gives by what its operands do.
-- Assumes nothing.
use mathlib.Core.Path.{◌≡◌, refl, ◌∙◌}
use mathlib.Core.List.{List}
use Prim.Native.Nat.{ℕ, zero, suc, ◌+◌, ◌-◌, ◌/◌, ◌<◌, ◌≤◌}
use native.Mathlib.Numerals.{sub-one}
use native.Mathlib.Omega.{arith}
use borrow.Author.Tests.{lt-ltb, le-ltb}
use lib.ListN.{length}
use Rattle.std.specs.declared.result.Result.{Result}
use Rattle.std.specs.declared.result.Result.TheVariants.{Ok, Err}
use Rattle.shapes.specs.declared.Refusal.{Refusal}
use Rattle.records.specs.declared.kinds.Sort.{Sort}
use Rattle.records.specs.declared.kinds.Operands.TheVariants.{Zero, One, Two}
use Rattle.records.specs.declared.kinds.Signature.{Signature}
use Rattle.records.specs.Record.{kind_at}
use Rattle.records.specs.Kind.{signature_at}
use Rattle.intervals.specs.declared.Analysis.{Analysis}
use Rattle.intervals.specs.Interval.{unit, leaf_of, join_of, own_of, by_operands, analysis_of}

-- ---- by the operands
module _ (file : List ℕ) (at : ℕ) (operand : ℕ → Result Analysis Refusal) where
  by_none : by_operands file at operand Zero ≡ own_of (leaf_of file at) (at + 1) at
  unfolding by_operands
  by_none = refl

  by_one_refused : (a : Sort) (r : Refusal) → operand (at + 1) ≡ Err r → by_operands file at operand (One a) ≡ Err r
  unfolding by_operands
  by_one_refused a r e = rw e

  by_left_refused : (a b : Sort) (r : Refusal) → operand (at + 1) ≡ Err r → by_operands file at operand (Two a b) ≡ Err r
  unfolding by_operands
  by_left_refused a b r e = rw e

  module _ (i : Analysis) (left : operand (at + 1) ≡ Ok i) where
    by_one : (a : Sort) → by_operands file at operand (One a) ≡ own_of unit i.end at
    unfolding by_operands
    by_one a = rw left

    by_right_refused : (a b : Sort) (r : Refusal) → operand i.end ≡ Err r → by_operands file at operand (Two a b) ≡ Err r
    unfolding by_operands
    by_right_refused a b r e = rw (left, e)

    by_two : (a b : Sort) (j : Analysis) → operand i.end ≡ Ok j
        → by_operands file at operand (Two a b) ≡ own_of (join_of (kind_at file at) i.interval j.interval) j.end at
    unfolding by_operands
    by_two a b j e = rw (left, e)

-- ---- an expression's first record
module _ (file : List ℕ) (levels at : ℕ) where
  pub analyse_deep : levels ≡ 0 → analysis_of file levels at ≡ Err (Refusal.Interval at)
  unfolding analysis_of
  analyse_deep h = rw h

  pub analyse_short : length file / 8 ≤ at → analysis_of file levels at ≡ Err (Refusal.Interval at)
  unfolding analysis_of
  analyse_short h = by_levels levels
    where
      by_levels : (n : ℕ) → analysis_of file n at ≡ Err (Refusal.Interval at)
      by_levels zero = refl
      by_levels (suc n) = rw (le-ltb _ _ h)

  module _ (s : Signature) (is : s ≡ signature_at file at) (here : at < length file / 8) (deep : levels ≡ 0 → ⊥) where
    opens : analysis_of file levels at ≡ by_operands file at (analysis_of file (levels - 1)) s.operands
    unfolding analysis_of
    opens = by_levels levels deep
      where
        by_levels : (n : ℕ) → (n ≡ 0 → ⊥) → analysis_of file n at ≡ by_operands file at (analysis_of file (n - 1)) s.operands
        by_levels zero h = absurd (h refl)
        by_levels (suc n) h = rw (is, lt-ltb _ _ here, sub-one)

    pub analyse_leaf : s.operands ≡ Zero → analysis_of file levels at ≡ own_of (leaf_of file at) (at + 1) at
    analyse_leaf h = opens ∙ rw h (by_none file at _)

    module _ {a : Sort} (one : s.operands ≡ One a) where
      pub analyse_one_refused : (r : Refusal) → analysis_of file (levels - 1) (at + 1) ≡ Err r → analysis_of file levels at ≡ Err r
      analyse_one_refused r e = opens ∙ rw one (by_one_refused file at _ a r e)

      pub analyse_one : (i : Analysis) → analysis_of file (levels - 1) (at + 1) ≡ Ok i → analysis_of file levels at ≡ own_of unit i.end at
      analyse_one i left = opens ∙ rw one (by_one file at _ i left a)

    module _ {a b : Sort} (two : s.operands ≡ Two a b) where
      pub analyse_left_refused : (r : Refusal) → analysis_of file (levels - 1) (at + 1) ≡ Err r → analysis_of file levels at ≡ Err r
      analyse_left_refused r e = opens ∙ rw two (by_left_refused file at _ a b r e)

      module _ (i : Analysis) (left : analysis_of file (levels - 1) (at + 1) ≡ Ok i) where
        pub analyse_right_refused : (r : Refusal) → analysis_of file (levels - 1) i.end ≡ Err r → analysis_of file levels at ≡ Err r
        analyse_right_refused r e = opens ∙ rw two (by_right_refused file at _ i left a b r e)

        pub analyse_two : (j : Analysis) → analysis_of file (levels - 1) i.end ≡ Ok j
            → analysis_of file levels at ≡ own_of (join_of (kind_at file at) i.interval j.interval) j.end at
        analyse_two j e = opens ∙ rw two (by_two file at _ i left a b j e)
