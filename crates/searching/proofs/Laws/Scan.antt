-- Laws of a loop over the states of a diagram, whose values it carries forward.
--     StatesPassed                     so many states are passed, in each of which the test holds
--     pass_begin, pass_more            none, at the first state; one more, where the test holds
--     pass_within, pass_idle           the state at hand is one, and its values behind the variables are idle
--     pass_here                        the test there is that of the state of the number
--     onward_asks, pass_onward         boxes may be asked; what they let skip is passed
--     pass_fails, pass_end             the first state at which the test fails, or all are passed
-- Assumes nothing.
use mathlib.Core.Path.{◌≡◌, sym, ◌∙◌}
use mathlib.Core.Bool.{Bool, true, false}
use mathlib.Core.List.{List}
use Prim.Native.Nat.{ℕ, ◌+◌, ◌<◌, ◌≤◌}
use native.Mathlib.Nat.{le_refl, le_of_lt, lt_irrefl}
use native.Mathlib.Omega.{arith}
use borrow.Author.Count.{below_more}
use lib.IntN.{ℤ}
use Rattle.truths.specs.Search.{first_failing}
use Rattle.truths.proofs.Laws.First.{first_is}
use Rattle.states.specs.Ranges.{Ranges, Idle}
use Rattle.states.specs.Number.{count_of}
use Rattle.states.specs.Advance.{advance_of}
use Rattle.states.proofs.Laws.Number.{first_state, advance_next}
use Rattle.diagrams.specs.declared.Diagram.{Diagram}
use Rattle.diagrams.specs.Diagram.{Loaded, State, state_at}
use Rattle.diagrams.specs.Promise.{Promise}
use Rattle.diagrams.proofs.Laws.Diagram.{promised, state_at_lem, state_numbered}
use Rattle.testing.specs.declared.Test.{Test}
use Rattle.testing.specs.Testing.{passes_of, TestFits}
use Rattle.searching.specs.declared.scan.Scan.{Scan}
use Rattle.searching.specs.Search.{skip_to}
use Rattle.searching.specs.Scan.{search_of, scan_at, onward_of}
use Rattle.searching.proofs.Laws.Search.{Passed, skipped}

-- n states are passed, in each of which the test holds; `state` is the next, as long as there is one
pub record StatesPassed (g : Diagram) (test : List ℤ → Bool) (state : List ℤ) (n : ℕ) : Type 0 where
  pub passed : n ≤ g.states
  pub here : n < g.states → state ≡ state_at g n
  pub held : (k : ℕ) → k < n → test (state_at g k) ≡ true

module _ (file : List ℕ) (g : Diagram) (r : Loaded file g) where
  keeps : Promise file g
  keeps = promised file g r

  pub pass_begin : {test : List ℤ → Bool} → StatesPassed g test g.low 0
  pass_begin =
      record { passed = omega arith; here = λ l. sym (state_at_lem g 0 ∙ first_state keeps.ranges); held = λ k l. absurd (omega arith) }

  -- ---- one state after the other
  module _ {test : List ℤ → Bool} {state : List ℤ} {n : ℕ} (p : StatesPassed g test state n) (l : n < g.states) where
    pub pass_within : State g state
    pass_within = rw (p.here l) (state_numbered file g r n l).0

    pub pass_idle : (g.vars ≤ 12) × Idle g.vars g.low g.high state
    pass_idle = (keeps.variables.1, keeps.idle state pass_within)

    pub pass_here : {b : Bool} → test state ≡ b → test (state_at g n) ≡ b
    pass_here f = rw (p.here l) at f

    pub pass_more : test state ≡ true → {after : List ℤ} → after ≡ advance_of g.low g.high state → StatesPassed g test after (n + 1)
    pass_more f e =
        record {
          passed = omega arith;
          here = λ k. e ∙ rw (p.here l, state_at_lem, state_at_lem) (advance_next keeps.ranges n (rw keeps.counted at k));
          held = below_more _ n p.held (pass_here f);
        }

    -- ---- the end
    pub pass_fails : test state ≡ false → first_failing (λ k. test (state_at g k)) g.states ≡ n
    pass_fails f = first_is (λ k. test (state_at g k)) g.states n (le_of_lt l) p.held (λ m. pass_here f)

  pub pass_end : {test : List ℤ → Bool} {state : List ℤ} {n : ℕ} → StatesPassed g test state n → g.states ≤ n
      → first_failing (λ k. test (state_at g k)) g.states ≡ g.states
  pass_end {test} p l =
      let s = g.states in
      first_is (λ k. test (state_at g k)) s s (le_refl s) (λ k m. p.held k (omega (arith, m, l))) (λ m. absurd (lt_irrefl s m))

  -- ---- by boxes
  module _ {test : Test} (fits : TestFits g.low g.high file test) where
    pub onward_asks : TestFits g.low g.high file test × (Ranges g.low g.high × (count_of g.low g.high ≤ 1048576))
    onward_asks = (fits, (keeps.ranges, rw (← keeps.counted) keeps.states.1))

    module _ {holds : List ℤ → Bool} (says : (state : List ℤ) → passes_of g.low g.high file test state ≡ holds state) where
      pub pass_onward : {state : List ℤ} {n : ℕ} → StatesPassed g holds state n → (spans : List ℕ) (ask : ℕ) {to : Scan}
          → to ≡ onward_of file spans (search_of g test) g.states (scan_at state n ask)
          → StatesPassed g holds to.state to.number × (n ≤ to.number)
      unfolding onward_of
      pass_onward {state} {n} p spans ask e =
          let long = keeps.long in
          let here : Passed file (search_of g test) fits long g.states (skip_to state n) =
          record {
            most = p.passed;
            here = λ l. p.here l ∙ state_at_lem g n;
            held = λ k l. rw (state_at_lem g k) at (says _ ∙ p.held k l);
          } in
          let r = skipped file (search_of g test) fits long keeps.ranges keeps.counted here _ in
          rw e (
            record {
              passed = r.0.most;
              here = λ l. r.0.here l ∙ sym (state_at_lem g _);
              held = λ k l. rw (state_at_lem g k) (sym (says _) ∙ r.0.held k l);
            },
            r.1,
          )
