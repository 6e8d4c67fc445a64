-- What is seen of a prepared test on a box is so at each of its states.
--     passes_said     the test passes there or not, as is said
--     passes_yes      so where it is seen to pass, it does
-- Assumes nothing.
use mathlib.Core.Path.{◌≡◌, refl}
use mathlib.Core.Bool.{Bool, true}
use mathlib.Core.List.{List, [], ◌∷◌}
use Prim.Native.Nat.{ℕ, suc, ◌<◌}
use native.Mathlib.Omega.{arith}
use native.Mathlib.Nat.{min-le_left}
use lib.ListN.{length, get_or, length-take}
use lib.Seq.{get_or-take}
use lib.IntN.{ℤ}
use Rattle.expressions.specs.Fits.{TruthFits}
use Rattle.evaluating.specs.Step.{enabled_of}
use Rattle.evaluating.specs.Fits.{TransitionFits}
use Rattle.evaluating.proofs.Laws.Step.{enabled_and, ends_ranges, between_state}
use Rattle.states.proofs.Laws.State.{ranges_low}
use Rattle.states.proofs.Laws.Between.{between_within, within_between}
use Rattle.truths.proofs.Laws.Truth.{and_asked}
use Rattle.boxes.specs.declared.Box.{Box}
use Rattle.boxes.specs.Box.{Inside}
use Rattle.domains.specs.declared.seen.Seen.TheVariants.{Yes}
use Rattle.domains.specs.Seen.{Says}
use Rattle.domains.proofs.Laws.Seen.{all_pass_says, either_says, implies_says, implied_says, yes_says, says_no}
use Rattle.enclosures.proofs.Laws.Enclosure.{seen_said}
use Rattle.successors.proofs.Laws.Successor.{guard_said, range_said, enabled_said, successor_inside}
use Rattle.testing.specs.declared.Conclusion.{Conclusion}
use Rattle.testing.specs.declared.Test.{Test}
use Rattle.testing.proofs.Laws.Testing.{successors_pass, steps_apart}
use Rattle.testing.specs.Testing.{some_holds, some_in, targets_listed, concludes_of, concludes_in, passes_of, passes_in, TestFits}

-- ---- one of several truths
some_said : (file : List ℕ) {b : Box} {state : List ℤ} → Inside b state → (places : List ℕ)
    → ((i : ℕ) → i < length places → TruthFits file (get_or places i 0) state) → Says (some_in file places b) (some_holds file places state)
unfolding some_in some_holds
some_said file w [] f = says_no refl
some_said file w (at ∷ places) f =
    either_says _ _ _ _ (seen_said w file at (f 0 (omega arith))) (some_said file w places (λ i l. f (suc i) (omega arith)))

-- ---- a test
module _ (file : List ℕ) (ranges : Box) (test : Test) (fits : TestFits ranges.low ranges.high file test) where
  targets_fit : {state : List ℤ} → Inside ranges state
      → (i : ℕ) → i < length (targets_listed test) → TruthFits file (get_or (targets_listed test) i 0) state
  targets_fit w i l =
      let targets = test.targets in
      let m : i < targets.count = omega (arith, length-take targets.count targets.places, min-le_left targets.count (length targets.places)) in
      rw (get_or-take targets.count targets.places i 0 m) (fits.targets i m _ w)

  module _ {b : Box} {state : List ℤ} (inside : Inside b state) (w : Inside ranges state) where
    abbrev enabled : Bool
    enabled = enabled_of ranges.low ranges.high file test.transition state

    -- the conclusions that speak of the transition
    module _ (h : TransitionFits file test.transition state) where
      range_concluded : Says (concludes_in ranges file test Conclusion.ValuesInRange b)
          (concludes_of ranges.low ranges.high file test Conclusion.ValuesInRange state)
      unfolding concludes_in concludes_of
      range_concluded =
          implies_says _ _ _ _ (guard_said ranges file inside test.transition h)
          (λ g. rw (enabled_and ranges.low ranges.high file test.transition state, and_asked _ g refl)
          (range_said ranges file inside test.transition h g))

      reached_concluded : Says (concludes_in ranges file test Conclusion.Reached b)
          (concludes_of ranges.low ranges.high file test Conclusion.Reached state)
      unfolding concludes_in concludes_of
      reached_concluded =
          let at = test.transition in
          let some = ends_ranges file at state w h in
          rw (successors_pass ranges.low ranges.high file at state (some_holds file (targets_listed test)))
          (implies_says _ _ _ _ (enabled_said ranges file inside at h)
          (λ e. all_pass_says _ (some_holds file (targets_listed test)) _ _ (within_between (ranges_low some))
          (λ next m.
          let between = between_within some m in
          some_said file (successor_inside ranges file inside at h e between) (targets_listed test)
          (targets_fit (between_state ranges.low ranges.high file at state e w between)))))

      enabling_concluded : Says (concludes_in ranges file test Conclusion.Enabled b)
          (concludes_of ranges.low ranges.high file test Conclusion.Enabled state)
      unfolding concludes_in concludes_of
      enabling_concluded = enabled_said ranges file inside test.transition h

    concluded : (c : Conclusion) → test.conclusion ≡ c
        → Says (concludes_in ranges file test c b) (concludes_of ranges.low ranges.high file test c state)
    unfolding concludes_in concludes_of
    concluded Conclusion.SomeTarget e = some_said file inside (targets_listed test) (targets_fit w)
    concluded Conclusion.ValuesInRange e = range_concluded (fits.transition (steps_apart e refl) state w)
    concluded Conclusion.Reached e = reached_concluded (fits.transition (steps_apart e refl) state w)
    concluded Conclusion.Enabled e = enabling_concluded (fits.transition (steps_apart e refl) state w)

    pub passes_said : Says (passes_in ranges file test b) (passes_of ranges.low ranges.high file test state)
    unfolding passes_in passes_of
    passes_said = implied_says _ _ _ _ (seen_said inside file test.premise (fits.premise state w)) (concluded test.conclusion refl)

  pub passes_yes : (b : Box) (state : List ℤ) → Inside b state → ((t : List ℤ) → Inside b t → Inside ranges t)
      → passes_in ranges file test b ≡ Yes → passes_of ranges.low ranges.high file test state ≡ true
  passes_yes b state inside part e = yes_says (passes_said inside (part state inside)) e
