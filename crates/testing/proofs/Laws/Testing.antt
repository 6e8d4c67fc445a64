-- Laws of prepared tests.
--     prepared      the test of a condition says what the condition says
--     test_fits     what it speaks of can be evaluated at every state
--     successors_pass     a test of each successor
--     denial_says, denial_fits             the test that a truth is false says so; it can be evaluated where the truth can
--     passes_vacuous, passes_concluded     a test passes where its premise does not hold, else by its conclusion
--     steps_apart     a conclusion that speaks of a transition is another than one that doesn't
-- Assumes nothing.
use mathlib.Core.Path.{◌≡◌, refl, sym, ap, ◌∙◌}
use mathlib.Core.Bool.{Bool, true, false, not, or-false, false≢true}
use mathlib.Core.List.{List, [], ◌∷◌, ◌++◌}
use Prim.Native.Nat.{ℕ, zero, suc, ◌-◌, ◌≤◌, ◌<◌}
use native.Mathlib.Omega.{arith}
use lib.ListN.{length, get_or, take, replicate, get_or-append}
use lib.Seq.{take-append_seam}
use lib.IntN.{ℤ}
use Rattle.truths.specs.Truth.{implies}
use Rattle.truths.proofs.Laws.Truth.{by-test, implies_true, implies_false, implies_own, implies_or}
use Rattle.truths.specs.Listed.{all_pass}
use Rattle.truths.proofs.Laws.Listed.{all_pass_none, all_pass_same}
use Rattle.states.specs.State.{Within}
use Rattle.states.specs.Number.{states_between}
use Rattle.expressions.specs.Expression.{holds_of}
use Rattle.evaluating.specs.Step.{enabled_of, lowest_of, highest_of, successors_of}
use Rattle.evaluating.proofs.Laws.Step.{successors_between, successors_none}
use Rattle.evaluating.specs.Fits.{TransitionFits}
use Rattle.diagrams.specs.declared.Diagram.{Diagram}
use Rattle.diagrams.specs.Diagram.{Loaded}
use Rattle.diagrams.specs.Truth.{node_holds, claimed_at, q_at}
use Rattle.diagrams.specs.System.{step_at, guard_holds, values_fit, next_states}
use Rattle.diagrams.specs.Promise.{Promise}
use Rattle.diagrams.proofs.Laws.Diagram.{promised}
use Rattle.diagrams.proofs.Laws.Truth.{start_at, node_at, p_at, q_at_lem}
use Rattle.diagrams.proofs.Laws.System.{guard_at, enabled_at, next_at, enabled_and}
use Rattle.conditions.specs.Edges.{is_double}
use Rattle.conditions.specs.Condition.{Listed}
use Rattle.conditions.specs.declared.Condition.{Condition}
use Rattle.conditions.specs.declared.Condition.TheVariants.{Start, Entry, Cover, Range, Step, Enabling}
use Rattle.conditions.proofs.Laws.Condition.{Parts, listed_parts}
use Rattle.testing.specs.Holding.{some_node, step_leads, condition_holds}
use Rattle.testing.specs.declared.Conclusion.{Conclusion}
use Rattle.testing.specs.declared.Test.{Test}
use Rattle.testing.specs.Testing.{marks_of, chosen_from, targets_of, chosen_of, prepared_of, denial_of, test_of, some_holds, concludes_of, passes_of}
use Rattle.testing.specs.Testing.{FitsEverywhere, TestFits}
use Rattle.testing.proofs.Laws.Targets.{chosen_most, chosen_each, some_node_lem, some_reached}

-- ---- a test of each successor: of none where the transition is disabled, else of each state between its ends
pub successors_pass : (lows highs : List ℤ) (file : List ℕ) (at : ℕ) (state : List ℤ) (test : List ℤ → Bool)
    → all_pass test (successors_of lows highs file at state)
    ≡ implies (enabled_of lows highs file at state) (all_pass test (states_between (lowest_of file at state) (highest_of file at state)))
successors_pass lows highs file at state test =
    let next = states_between (lowest_of file at state) (highest_of file at state) in
    by-test (enabled_of lows highs file at state) (λ b. all_pass test (successors_of lows highs file at state) ≡ implies (enabled_of lows highs file at state) (all_pass test next))
    (λ e. rw (successors_between lows highs file at state e, e) (sym (implies_true (all_pass test next))))
    (λ e. rw (successors_none lows highs file at state e, e, all_pass_none test) (sym (implies_false (all_pass test next))))

-- ---- a test of a list of places
module _ (lows highs : List ℤ) (file : List ℕ) (premise transition : ℕ) (list : List ℕ) where
  taken : take (length list) (list ++ replicate (32 - length list) 0) ≡ list
  taken = take-append_seam list (replicate (32 - length list) 0)

  some_passes_lem : (state : List ℤ) → passes_of lows highs file (prepared_of premise Conclusion.SomeTarget transition (targets_of list)) state
      ≡ implies (holds_of file premise state) (some_holds file list state)
  unfolding passes_of prepared_of targets_of concludes_of
  some_passes_lem state = ap (λ (l : List ℕ). implies (holds_of file premise state) (some_holds file l state)) taken

  reached_passes : (state : List ℤ) → passes_of lows highs file (prepared_of premise Conclusion.Reached transition (targets_of list)) state
      ≡ implies (holds_of file premise state) (all_pass (some_holds file list) (successors_of lows highs file transition state))
  unfolding passes_of prepared_of targets_of concludes_of
  reached_passes state =
      ap (λ (l : List ℕ). implies (holds_of file premise state) (all_pass (some_holds file l) (successors_of lows highs file transition state))) taken

  places_fit : (conclusion : Conclusion) → FitsEverywhere lows highs file premise → length list ≤ 32
      → ((i : ℕ) → i < length list → FitsEverywhere lows highs file (get_or list i 0))
      → ((conclusion ≡ Conclusion.SomeTarget → ⊥) → (state : List ℤ) → Within lows highs state → TransitionFits file transition state)
      → TestFits lows highs file (prepared_of premise conclusion transition (targets_of list))
  unfolding prepared_of targets_of
  places_fit conclusion p m t f =
      record {
        premise = p;
        few = m;
        targets = λ i l. rw (get_or-append list (replicate (32 - length list) 0) 0 i l) (t i l);
        transition = f;
      }

module _ (lows highs : List ℤ) (file : List ℕ) (at : ℕ) where
  pub denial_says : (state : List ℤ) → passes_of lows highs file (denial_of at) state ≡ not (holds_of file at state)
  unfolding denial_of some_holds
  denial_says state =
      some_passes_lem lows highs file at 0 [] state ∙ sym (implies_or (holds_of file at state) false) ∙ or-false (not (holds_of file at state))

  pub denial_fits : FitsEverywhere lows highs file at → TestFits lows highs file (denial_of at)
  unfolding denial_of
  denial_fits f = places_fit lows highs file at 0 [] Conclusion.SomeTarget f (omega arith) (λ i l. absurd (omega arith)) (λ u. absurd (u refl))

module _ (file : List ℕ) (g : Diagram) (r : Loaded file g) where
  abbrev lows : List ℤ
  lows = g.low

  abbrev highs : List ℤ
  highs = g.high

  abbrev assertion_at : ℕ → ℕ
  assertion_at n = get_or g.assertions n 0

  keeps : Promise file g
  keeps = promised file g r

  -- the targets of start and entry, and of a step
  abbrev all : List ℕ
  all = chosen_from (replicate 32 true) g.assertions g.nodes 0

  abbrev reachable : ℕ → ℕ → List ℕ
  reachable n t = chosen_from (marks_of file g n t (not (is_double file g n t))) g.assertions g.nodes 0

  -- ---- what the tests say
  module _ (state : List ℤ) where
    says_some : (premise : ℕ) → passes_of lows highs file (prepared_of premise Conclusion.SomeTarget 0 (targets_of all)) state
        ≡ implies (holds_of file premise state) (some_node file g state)
    says_some premise = some_passes_lem lows highs file premise 0 all state ∙ ap (implies (holds_of file premise state)) (some_node_lem file g r state)

    says_step : (n t : ℕ) → n < g.nodes → passes_of lows highs file (test_of file g (Step n t)) state ≡ condition_holds file g (Step n t) state
    unfolding test_of chosen_of condition_holds step_leads
    says_step n t l =
        rw (← (node_at file g state n), ← (next_at file g t state)) at
        (reached_passes lows highs file (assertion_at n) (step_at g t) (reachable n t) state)
        ∙ ap (implies (node_holds file g n state))
        (all_pass_same (some_holds file (reachable n t)) (step_leads file g n t) (next_states file g t state)
        (λ next m. some_reached file g r next n t (not (is_double file g n t)) l))

    says_range : (n t : ℕ) → passes_of lows highs file (test_of file g (Range n t)) state ≡ condition_holds file g (Range n t) state
    unfolding test_of condition_holds passes_of prepared_of concludes_of
    says_range n t =
        rw (← (node_at file g state n), ← (guard_at file g t state), ← (enabled_at file g t state), enabled_and file g t state)
        (implies_own (node_holds file g n state) (guard_holds file g t state) (values_fit file g t state))

    says : (c : Condition) → Parts g c → passes_of lows highs file (test_of file g c) state ≡ condition_holds file g c state
    unfolding test_of chosen_of condition_holds passes_of prepared_of concludes_of some_holds
    says Start p = rw (start_at file g state) (says_some g.start)
    says Entry p = rw (p_at file g state) (says_some (claimed_at file g 0))
    says (Cover n) p =
        rw (node_at file g state n, q_at_lem file g state n)
        (some_passes_lem lows highs file (assertion_at n) 0 (q_at file g n ∷ []) state
        ∙ ap (implies (holds_of file (assertion_at n) state)) (or-false (holds_of file (q_at file g n) state)))
    says (Range n t) p = says_range n t
    says (Step n t) p = says_step n t p.0
    says (Enabling n t) p = rw (node_at file g state n, enabled_at file g t state) refl

  -- ---- what they speak of
  chosen_fit : (marks : List Bool) (i : ℕ) → i < length (chosen_from marks g.assertions g.nodes 0)
      → FitsEverywhere lows highs file (get_or (chosen_from marks g.assertions g.nodes 0) i 0)
  chosen_fit marks i l =
      chosen_each marks g.assertions (λ at. FitsEverywhere lows highs file at) g.nodes 0
      (λ j a b. let m : j < g.nodes = omega arith in (keeps.assertion j m).fits) i l

  chosen_few : (marks : List Bool) → length (chosen_from marks g.assertions g.nodes 0) ≤ 32
  chosen_few marks = omega (arith, chosen_most marks g.assertions g.nodes 0, keeps.nodes.1)

  only : (at : ℕ) → FitsEverywhere lows highs file at → (i : ℕ) → i < 1 → FitsEverywhere lows highs file (get_or (at ∷ []) i 0)
  only at f zero l = f
  only at f (suc i) l = absurd (omega arith)

  fits : (c : Condition) → Parts g c → TestFits lows highs file (test_of file g c)
  unfolding test_of chosen_of
  fits Start p =
      places_fit lows highs file g.start 0 all Conclusion.SomeTarget keeps.start.fits (chosen_few (replicate 32 true))
      (chosen_fit (replicate 32 true)) (λ u. absurd (u refl))
  fits Entry p =
      places_fit lows highs file (claimed_at file g 0) 0 all Conclusion.SomeTarget keeps.p.fits (chosen_few (replicate 32 true))
      (chosen_fit (replicate 32 true)) (λ u. absurd (u refl))
  fits (Cover n) p =
      places_fit lows highs file (assertion_at n) 0 (q_at file g n ∷ []) Conclusion.SomeTarget (keeps.assertion n p).fits (omega arith)
      (only (q_at file g n) (keeps.q n p).fits) (λ u. absurd (u refl))
  fits (Range n t) p =
      places_fit lows highs file (assertion_at n) (step_at g t) [] Conclusion.ValuesInRange (keeps.assertion n p.0).fits (omega arith)
      (λ i l. absurd (omega arith)) (λ u. keeps.step t p.1)
  fits (Step n t) p =
      let marks = marks_of file g n t (not (is_double file g n t)) in
      places_fit lows highs file (assertion_at n) (step_at g t) (reachable n t) Conclusion.Reached (keeps.assertion n p.0).fits
      (chosen_few marks) (chosen_fit marks) (λ u. keeps.step t p.1)
  fits (Enabling n t) p =
      places_fit lows highs file (assertion_at n) (step_at g t) [] Conclusion.Enabled (keeps.assertion n p.0).fits (omega arith)
      (λ i l. absurd (omega arith)) (λ u. keeps.step t p.1)

module _ (file : List ℕ) (g : Diagram) (r : Loaded file g) (c : Condition) (listed : Listed file g c) where
  pub prepared : (state : List ℤ) → passes_of g.low g.high file (test_of file g c) state ≡ condition_holds file g c state
  prepared state = says file g r state c (listed_parts file g r c listed)

  pub test_fits : TestFits g.low g.high file (test_of file g c)
  test_fits = fits file g r c (listed_parts file g r c listed)

-- ---- a test, by its premise
module _ (lows highs : List ℤ) (file : List ℕ) (test : Test) (state : List ℤ) where
  module _ {p : Bool} (is : p ≡ holds_of file test.premise state) where
    pub passes_vacuous : p ≡ false → passes_of lows highs file test state ≡ true
    unfolding passes_of
    passes_vacuous t = rw (← is, t) (implies_false _)

    pub passes_concluded : p ≡ true → {q : Bool} → q ≡ concludes_of lows highs file test test.conclusion state
        → passes_of lows highs file test state ≡ q
    unfolding passes_of
    passes_concluded t e = rw (← is, t, e) (implies_true _)

-- ---- whether a conclusion speaks of a transition
abbrev pub steps : Conclusion → Bool
steps Conclusion.SomeTarget = false
steps Conclusion.ValuesInRange = true
steps Conclusion.Reached = true
steps Conclusion.Enabled = true

pub steps_apart : {k c : Conclusion} → k ≡ c → steps c ≡ true → k ≡ Conclusion.SomeTarget → ⊥
steps_apart e t f = false≢true (ap steps (sym f ∙ e) ∙ t)
