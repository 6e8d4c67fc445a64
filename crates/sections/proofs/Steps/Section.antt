-- One turn of a section's loop: what all of the section is, by the code's tests of the next record in their order.
-- Assumes nothing.
use mathlib.Core.Path.{◌≡◌, refl, sym}
use mathlib.Core.Bool.{Bool, true, false}
use mathlib.Core.List.{List}
use Prim.Native.Nat.{ℕ, zero, suc, ◌+◌, ◌-◌, ◌<◌}
use native.Mathlib.Numerals.{sub-one}
use native.Mathlib.Omega.{arith}
use borrow.Author.Tests.{eq-eqb, ne_eqb}
use lib.ListN.{length, get_or, set}
use Rattle.std.specs.Bool.{MatchBool}
use Rattle.std.specs.List.{range_with_len, AllWithin, HoldsAt}
use Rattle.std.proofs.lemmas.List.FromFn.{length-range_with_len, get_or-range_with_len}
use Rattle.std.specs.declared.result.Result.TheVariants.{Ok, Err}
use Rattle.shapes.specs.declared.Refusal.{Refusal}
use Rattle.records.specs.Walk.{Walked}
use Rattle.records.specs.Record.{field_a, kind_is}
use Rattle.sections.specs.Section.{items, items_of, is_update, update_fields, update_of, updates_of}
use Rattle.truths.specs.Search.{any}
use Rattle.truths.proofs.Laws.Any.{any_at, none_passes}

-- ---- edges
-- an iterator over n numbers in a row finds one that passes where one of them does
module _ (test : ℕ → Bool) (first n : ℕ) where
  at_nth : (k : ℕ) → k < length (range_with_len first n) → (k < n) × (get_or (range_with_len first n) k 0 ≡ first + k)
  at_nth k l = let z : k < n = omega (arith, length-range_with_len first n) in (z, get_or-range_with_len first n k 0 z)

  pub any_found : (b : Bool) → let all = range_with_len first n in
      MatchBool b ((k : ℕ) × (k < length all) × HoldsAt (λ i. test i ≡ true) all k) (AllWithin (λ i. test i ≡ false) all 0 (length all))
      → b ≡ any test n first
  any_found true some =
      let here = at_nth some.0 some.1 in
      sym (any_at test n first some.0 here.0 (rw here.1 at (some.2 0)))
  any_found false none =
      sym (none_passes test n first
      (λ k l m.
      let below : k - first < n = omega arith in
      let nth : first + (k - first) ≡ k = omega arith in
      let each : test (get_or (range_with_len first n) (k - first) 0) ≡ false =
      none (k - first) 0 (omega arith) (rw length-range_with_len below) in
      rw (get_or-range_with_len first n (k - first) 0 below, nth) at each))

-- ---- items: n lie before `at`, and at most `left` more may follow
module _ (file : List ℕ) (kind : ℕ) (fields : ℕ → Bool) (item : ℕ → Walked) (n at : ℕ) where
  pub items_stop : kind_is file kind at ≡ false → (left : ℕ) → items_of file kind fields item left n at ≡ Ok (items n at)
  unfolding items_of
  items_stop k zero = rw k
  items_stop k (suc left) = rw k

  module _ (named : kind_is file kind at ≡ true) where
    pub items_field : fields at ≡ false → (left : ℕ) → items_of file kind fields item left n at ≡ Err (Refusal.Field at)
    unfolding items_of
    items_field f zero = rw (named, f)
    items_field f (suc left) = rw (named, f)

    module _ (right : fields at ≡ true) where
      pub items_over : (left : ℕ) → left ≡ 0 → items_of file kind fields item left n at ≡ Err (Refusal.Limit at)
      unfolding items_of
      items_over left h = rw (h, named, right)

      pub items_ends : (left rest end : ℕ) → left ≡ suc rest → item at ≡ Ok end
          → items_of file kind fields item left n at ≡ items_of file kind fields item rest (n + 1) end
      unfolding items_of
      items_ends left rest end h e = rw (h, named, right, e)

      pub items_refused : (left : ℕ) (refusal : Refusal) → (left ≡ 0 → ⊥) → item at ≡ Err refusal
          → items_of file kind fields item left n at ≡ Err refusal
      unfolding items_of
      items_refused zero refusal h e = absurd (h refl)
      items_refused (suc left) refusal h e = rw (named, right, e)

-- ---- updates: at most `left` more may follow, and `marks` has 1 at each variable that was set
module _ (file : List ℕ) (vars : ℕ) (marks : List ℕ) (at : ℕ) where
  pub updates_stop : is_update file at ≡ false → (left : ℕ) → updates_of file vars left marks at ≡ Ok at
  unfolding updates_of
  updates_stop k zero = rw k
  updates_stop k (suc left) = rw k

  module _ (named : is_update file at ≡ true) where
    pub updates_field : update_fields file vars at ≡ false → (left : ℕ) → updates_of file vars left marks at ≡ Err (Refusal.Field at)
    unfolding updates_of
    updates_field f zero = rw (named, f)
    updates_field f (suc left) = rw (named, f)

    module _ (right : update_fields file vars at ≡ true) where
      pub updates_over : (left : ℕ) → left ≡ 0 → updates_of file vars left marks at ≡ Err (Refusal.Repetition at)
      unfolding updates_of
      updates_over left h = rw (h, named, right)

      -- `a` is the variable that this one sets
      module _ (a : ℕ) (sets : a ≡ field_a file at) where
        pub updates_again : (left : ℕ) → (left ≡ 0 → ⊥) → (get_or marks a 0 ≡ 0 → ⊥)
            → updates_of file vars left marks at ≡ Err (Refusal.Repetition at)
        unfolding updates_of
        updates_again zero h u = absurd (h refl)
        updates_again (suc left) h u = rw (named, right, ne_eqb _ _ (rw sets at u))

        module _ (free : get_or marks a 0 ≡ 0) where
          pub updates_ends : (left end : ℕ) → (left ≡ 0 → ⊥) → update_of file vars at ≡ Ok end
              → updates_of file vars left marks at ≡ updates_of file vars (left - 1) (set marks a 1) end
          unfolding updates_of
          updates_ends zero end h e = absurd (h refl)
          updates_ends (suc left) end h e = rw sets (rw (named, right, eq-eqb _ _ (rw sets at free), e, sub-one))

          pub updates_refused : (left : ℕ) (refusal : Refusal) → (left ≡ 0 → ⊥) → update_of file vars at ≡ Err refusal
              → updates_of file vars left marks at ≡ Err refusal
          unfolding updates_of
          updates_refused zero refusal h e = absurd (h refl)
          updates_refused (suc left) refusal h e = rw (named, right, eq-eqb _ _ (rw sets at free), e)
