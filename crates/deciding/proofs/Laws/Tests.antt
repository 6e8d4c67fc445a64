-- Laws of the tests made, one after the other up to the first that fails.
--     made_whole      where all pass, all are made: as many as conditions times states
--     made_broken     where test n of condition k fails and all before it pass, k times the states and n + 1
-- Assumes nothing.
use mathlib.Core.Path.{◌≡◌, refl, sym, ap, ◌∙◌}
use mathlib.Core.Bool.{Bool, true, false}
use mathlib.Core.List.{List, [], ◌∷◌, ◌++◌, append_assoc, append-nil}
use Prim.Native.Nat.{ℕ, zero, suc, ◌+◌, ◌*◌, ◌≤◌, ◌<◌}
use native.Mathlib.Nat.{mul-one}
use native.Mathlib.Omega.{arith}
use lib.ListN.{length, length-append}
use Rattle.conditions.specs.Condition.{each}
use Rattle.conditions.proofs.Laws.Each.{each_none, each_more, each_length}
use Rattle.deciding.specs.Decision.{up_to_failing, tests_in_order}

module _ {A : Type 0} (test : A → Bool) where
  -- all of the list pass
  abbrev Passes : List A → Type 0
  Passes xs = (rest : List A) → up_to_failing test (xs ++ rest) ≡ xs ++ up_to_failing test rest

  -- the first that fails is the last of `made`
  abbrev Stops : List A → List A → Type 0
  Stops xs made = (rest : List A) → up_to_failing test (xs ++ rest) ≡ made

  one_passes : (x : A) → test x ≡ true → Passes (x ∷ [])
  unfolding up_to_failing
  one_passes x t rest = rw t

  one_stops : (x : A) → test x ≡ false → Stops (x ∷ []) (x ∷ [])
  unfolding up_to_failing
  one_stops x t rest = rw t

  module _ (f : ℕ → List A) where
    -- one list behind the other
    behind : (n at : ℕ) (rest : List A) → each f (suc n) at ++ rest ≡ f at ++ (each f n (at + 1) ++ rest)
    behind n at rest = rw (each_more f n at) (append_assoc (f at) (each f n (at + 1)) rest)

    each_passes : (n at : ℕ) → ((i : ℕ) → at ≤ i → i < at + n → Passes (f i)) → Passes (each f n at)
    each_passes zero at h rest = rw (each_none f at) refl
    each_passes (suc n) at h rest =
        ap (up_to_failing test) (behind n at rest)
        ∙ h at (omega arith) (omega arith) (each f n (at + 1) ++ rest)
        ∙ ap (λ (xs : List A). f at ++ xs) (each_passes n (at + 1) (λ i l m. h i (omega arith) (omega arith)) rest)
        ∙ sym (behind n at (up_to_failing test rest))

    stops_from : (n at k : ℕ) {made : List A} → k < n → ((i : ℕ) → at ≤ i → i < at + k → Passes (f i)) → Stops (f (at + k)) made
        → Stops (each f n at) (each f k at ++ made)
    stops_from zero at k l h s rest = absurd (omega arith)
    stops_from (suc n) at zero {made} l h s rest =
        let z : at + 0 ≡ at = omega arith in
        ap (up_to_failing test) (behind n at rest) ∙ rw z at (s (each f n (at + 1) ++ rest)) ∙ sym (rw (each_none f at) refl)
    stops_from (suc n) at (suc k) {made} l h s rest =
        let z : at + suc k ≡ at + 1 + k = omega arith in
        ap (up_to_failing test) (behind n at rest)
        ∙ h at (omega arith) (omega arith) (each f n (at + 1) ++ rest)
        ∙ ap (λ (xs : List A). f at ++ xs)
        (stops_from n (at + 1) k (omega arith) (λ i p q. h i (omega arith) (omega arith)) (rw z at s) rest)
        ∙ sym (behind k at made)

    each_stops : (n k : ℕ) {made : List A} → k < n → ((i : ℕ) → i < k → Passes (f i)) → Stops (f k) made → Stops (each f n 0) (each f k 0 ++ made)
    each_stops n k l h s = let z : k ≡ 0 + k = omega arith in stops_from n 0 k l (λ i p q. h i (omega arith)) (rw z at s)

module _ (test : ℕ × ℕ → Bool) (total states : ℕ) where
  -- the tests of one condition
  abbrev row : ℕ → ℕ → List (ℕ × ℕ)
  row c n = each (λ i. (c, i) ∷ []) n 0

  row_length : (c n : ℕ) → length (row c n) ≡ n
  row_length c n = each_length (λ i. (c, i) ∷ []) 1 n 0 (λ i l m. refl) ∙ mul-one n

  row_passes : (c n : ℕ) → ((i : ℕ) → i < n → test (c, i) ≡ true) → Passes test (row c n)
  row_passes c n h = each_passes test (λ i. (c, i) ∷ []) n 0 (λ i l m. one_passes test (c, i) (h i (omega arith)))

  rows_length : (n : ℕ) → length (each (λ c. row c states) n 0) ≡ n * states
  rows_length n = each_length (λ c. row c states) states n 0 (λ c l m. row_length c states)

  pub made_whole : ((k : ℕ) → k < total → (n : ℕ) → n < states → test (k, n) ≡ true)
      → length (up_to_failing test (tests_in_order total states)) ≡ total * states
  unfolding tests_in_order up_to_failing
  made_whole h =
      let rows = each (λ c. row c states) total 0 in
      let all = each_passes test (λ c. row c states) total 0 (λ k l m. row_passes k states (h k (omega arith))) [] in
      ap length (ap (up_to_failing test) (sym (append-nil rows)) ∙ all ∙ append-nil rows) ∙ rows_length total

  pub made_broken : (k n : ℕ) → k < total → n < states → ((i : ℕ) → i < k → (j : ℕ) → j < states → test (i, j) ≡ true)
      → ((j : ℕ) → j < n → test (k, j) ≡ true) → test (k, n) ≡ false
      → length (up_to_failing test (tests_in_order total states)) ≡ k * states + n + 1
  unfolding tests_in_order
  made_broken k n l m before passes fails =
      let rows = each (λ c. row c states) total 0 in
      let stops = each_stops test (λ i. (k, i) ∷ []) states n m (λ i p. one_passes test (k, i) (passes i p)) (one_stops test (k, n) fails) in
      let all = each_stops test (λ c. row c states) total k l (λ i p. row_passes i states (before i p)) stops [] in
      ap length (ap (up_to_failing test) (sym (append-nil rows)) ∙ all)
      ∙ length-append (each (λ c. row c states) k 0) (row k n ++ ((k, n) ∷ []))
      ∙ omega (arith, rows_length k, length-append (row k n) ((k, n) ∷ []), row_length k n)
