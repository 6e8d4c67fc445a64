-- What the walk does at a record, by the tests in their order, and one step of its operands and of parts in sequence, as the code takes it.
-- Assumes nothing.
use mathlib.Core.Path.{◌≡◌, refl, sym, ◌∙◌}
use mathlib.Core.Bool.{Bool, true, false, not}
use mathlib.Core.List.{List}
use Prim.Native.Nat.{ℕ, zero, suc, ◌+◌, ◌-◌, ◌/◌, ◌<◌, ◌≤◌}
use native.Mathlib.Numerals.{sub-one}
use native.Mathlib.Omega.{arith}
use borrow.Author.Tests.{not-true, not-false, lt-ltb, le-ltb, eq-eqb, ne_eqb}
use lib.ListN.{length}
use Rattle.std.specs.declared.result.Result.TheVariants.{Ok, Err}
use Rattle.shapes.specs.declared.Refusal.{Refusal}
use Rattle.records.specs.declared.kinds.Signature.{Signature}
use Rattle.shapes.specs.Refusal.{and_then}
use Rattle.std.specs.declared.option.Option.TheVariants.{None, Some}
use Rattle.std.specs.declared.option.Option.{Option}
use Rattle.std.specs.Option.{option_eq}
use Rattle.records.specs.contracts.kinds.SortPartialEq.TheImpl.{eq-value}
use Rattle.records.specs.declared.kinds.Sort.{Sort}
use Rattle.records.specs.declared.kinds.Sort.TheVariants.{Number, Truth, Divisor}
use Rattle.records.specs.declared.kinds.Operands.{Operands}
use Rattle.records.specs.declared.kinds.Operands.TheVariants.{Zero, One, Two}
use Rattle.records.specs.Kind.{sort_for, same_sort, is_sort, signature_at}
use Rattle.records.specs.Walk.{Walked, expression_fields, suits, in_sequence, operands_of, record_then, divisor_then, walk_of}
use Rattle.truths.proofs.Laws.Answer.{unless_taken, unless_left}

-- ---- one turn of a loop over n parts in sequence, of which k are passed, from `at` on
sequence_none_left : (part : ℕ → Walked) (n at : ℕ) → n ≤ 0 → in_sequence part n at ≡ Ok at
unfolding in_sequence
sequence_none_left part zero at h = refl
sequence_none_left part (suc n) at h = absurd (omega arith)

sequence_turn : (part : ℕ → Walked) (n at : ℕ) → 0 < n → in_sequence part n at ≡ and_then (part at) (in_sequence part (n - 1))
unfolding in_sequence
sequence_turn part zero at h = absurd (omega arith)
sequence_turn part (suc n) at h = rw (sub-one)

module _ (part : ℕ → Walked) {all : Walked} (n k at : ℕ) (inv : all ≡ in_sequence part (n - k) at) where
  pub sequence_none : n ≤ k → Ok at ≡ all
  sequence_none h = sym (inv ∙ sequence_none_left part (n - k) at (omega arith))

  module _ (more : k < n) {found : Walked} (is : found ≡ part at) where
    turn : all ≡ and_then found (in_sequence part (n - (k + 1)))
    turn =
        let z : n - k - 1 ≡ n - (k + 1) = omega arith in
        inv ∙ rw (is, ← z) (sequence_turn part (n - k) at (omega arith))

    pub sequence_ends : {end : ℕ} → found ≡ Ok end → all ≡ in_sequence part (n - (k + 1)) end
    sequence_ends e = rw e at turn

    pub sequence_refused : {refusal : Refusal} → found ≡ Err refusal → Err refusal ≡ all
    sequence_refused e = sym (rw e at turn)

-- ---- a record's operands, walked one behind the other
module _ (part : Sort → ℕ → Walked) {all : Walked} {operands : Operands} {at : ℕ} (inv : all ≡ operands_of part operands at) where
  pub operands_none : operands ≡ Zero → Ok at ≡ all
  unfolding operands_of
  operands_none is = sym (rw is at inv)

  pub operands_one : {a : Sort} → operands ≡ One a → {found : Walked} → found ≡ part a at → found ≡ all
  unfolding operands_of
  operands_one is e = e ∙ sym (rw is at inv)

  module _ {a b : Sort} (is : operands ≡ Two a b) {first : Walked} (e : first ≡ part a at) where
    both : all ≡ and_then first (part b)
    unfolding operands_of
    both = rw (is, ← e) at inv

    pub operands_refused : {refusal : Refusal} → first ≡ Err refusal → Err refusal ≡ all
    operands_refused f = sym (rw f at both)

    pub operands_two : {mid : ℕ} → first ≡ Ok mid → {second : Walked} → second ≡ part b mid → second ≡ all
    operands_two f g = g ∙ sym (rw f at both)

-- ---- the test of a sort, as the code makes it
same_as : (s t : Sort) → eq-value.it s t ≡ same_sort s t
same_as Number Number = refl
same_as Number Truth = refl
same_as Number Divisor = refl
same_as Truth Number = refl
same_as Truth Truth = refl
same_as Truth Divisor = refl
same_as Divisor Number = refl
same_as Divisor Truth = refl
same_as Divisor Divisor = refl

sort_as : (o : Option Sort) (sort : Sort) → option_eq eq-value.it o (Some sort) ≡ is_sort o sort
sort_as None sort = refl
sort_as (Some s) sort = same_as s sort

module _ (o : Option Sort) (want : Sort) {asked : Sort} (is : asked ≡ sort_for want) {other : Bool} (e : other ≡ not (option_eq eq-value.it o (Some asked)))
  where
    pub sort_unfit : other ≡ true → is_sort o (sort_for want) ≡ false
    sort_unfit h = rw (← is, ← sort_as o asked) (not-true _ (sym e ∙ h))

    pub sort_fits : other ≡ false → is_sort o (sort_for want) ≡ true
    sort_fits h = rw (← is, ← sort_as o asked) (not-false _ (sym e ∙ h))

-- ---- what the walk does at a record, by the code's tests in their order; `s` is the record's signature
module _ (file : List ℕ) (vars : ℕ) (want : Sort) (at : ℕ) where
  abbrev operands : ℕ → Signature → Walked
  operands levels s = operands_of (walk_of file vars levels) s.operands (at + 1)

  -- a refusal of the record itself comes before anything else
  refused : (levels : ℕ) (w : Walked) → ((rest : Walked) → record_then file vars want at rest ≡ w) → w ≡ walk_of file vars levels want at
  unfolding walk_of
  refused zero w h = sym (h (Err (Refusal.Limit at)))
  refused (suc levels) w h = sym (h (divisor_then file want at (operands levels (signature_at file at))))

  pub walk_short : (levels : ℕ) → length file / 8 ≤ at → Err (Refusal.Kind at) ≡ walk_of file vars levels want at
  unfolding record_then
  walk_short levels h = refused levels (Err (Refusal.Kind at)) λ rest. simp (le-ltb _ _ h)

  module _ (s : Signature) (is : s ≡ signature_at file at) (here : at < length file / 8) where
    pub walk_unfit : (levels : ℕ) → is_sort s.sort (sort_for want) ≡ false → Err (Refusal.Kind at) ≡ walk_of file vars levels want at
    unfolding record_then
    walk_unfit levels h = refused levels (Err (Refusal.Kind at)) λ rest. simp (← is, lt-ltb _ _ here, h)

    module _ (fit : is_sort s.sort (sort_for want) ≡ true) {right : Bool} (f : right ≡ expression_fields file vars at) where
      pub walk_field : (levels : ℕ) → not right ≡ true → Err (Refusal.Field at) ≡ walk_of file vars levels want at
      unfolding record_then
      walk_field levels h = refused levels (Err (Refusal.Field at)) λ rest. simp (← is, lt-ltb _ _ here, fit, unless_taken f h)

      module _ (r : not right ≡ false) where
        passes : (rest : Walked) → record_then file vars want at rest ≡ rest
        unfolding record_then
        passes rest = simp (← is, lt-ltb _ _ here, fit, unless_left f r)

        pub walk_deep : (levels : ℕ) → levels ≡ 0 → Err (Refusal.Limit at) ≡ walk_of file vars levels want at
        unfolding walk_of
        walk_deep zero h = sym (passes (Err (Refusal.Limit at)))
        walk_deep (suc levels) h = absurd (omega arith)

        module _ {suit : Bool} (d : suit ≡ suits file want at) where
          pub walk_divisor : (levels : ℕ) → (levels ≡ 0 → ⊥) → not suit ≡ true → Err (Refusal.Divisor at) ≡ walk_of file vars levels want at
          unfolding walk_of divisor_then
          walk_divisor zero h t = absurd (h refl)
          walk_divisor (suc levels) h t = sym (passes (divisor_then file want at (operands levels (signature_at file at))) ∙ rw (unless_taken d t))

          pub walk_step : (levels : ℕ) → (levels ≡ 0 → ⊥) → not suit ≡ false → walk_of file vars levels want at ≡ operands (levels - 1) s
          unfolding walk_of divisor_then
          walk_step zero h t = absurd (h refl)
          walk_step (suc levels) h t =
              passes (divisor_then file want at (operands levels (signature_at file at))) ∙ rw (unless_left d t, is, sub-one)
