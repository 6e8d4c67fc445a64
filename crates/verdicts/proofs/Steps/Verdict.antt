-- The search for the lowest broken condition: what is at hand before it, a condition and its test, and the loops over the states and the conditions.
-- Assumes nothing.
use mathlib.Core.Path.{◌≡◌, sym, ◌∙◌}
use mathlib.Core.Bool.{Bool, true, false}
use mathlib.Core.List.{List}
use Prim.Native.Nat.{ℕ, ◌+◌, ◌*◌, ◌<◌, ◌≤◌}
use native.Mathlib.Nat.{le_trans, mul-le-mul}
use native.Mathlib.Omega.{arith}
use borrow.Author.Count.{below_more}
use borrow.Author.Tests.{le-leb, lt-leb}
use lib.IntN.{ℤ}
use lib.ListN.{length}
use Rattle.std.specs.declared.result.Result.TheVariants.{Ok, Err}
use Rattle.shapes.specs.declared.Refusal.{Refusal}
use Rattle.states.specs.State.{Within}
use Rattle.states.specs.Ranges.{Ranges}
use Rattle.states.specs.Number.{count_of, state_of}
use Rattle.states.specs.Advance.{advance_of}
use Rattle.expressions.specs.Spans.{spans_of, Spans}
use Rattle.expressions.proofs.Laws.Span.{spans_right}
use Rattle.diagrams.specs.declared.Diagram.{Diagram}
use Rattle.shapes.specs.declared.Outline.{Outline}
use Rattle.diagrams.specs.Diagram.{found_of, diagram_of, Loaded, state_at}
use Rattle.diagrams.specs.Promise.{Promise}
use Rattle.diagrams.proofs.Laws.Diagram.{promised, state_at_lem, state_numbered}
use Rattle.conditions.specs.Condition.{total_of, condition_at, Listed, node_number, transition_number}
use Rattle.conditions.specs.declared.Condition.{Condition}
use Rattle.conditions.proofs.Laws.Condition.{condition_listed, names_small, total_most}
use Rattle.testing.specs.Holding.{condition_holds}
use Rattle.testing.specs.Testing.{test_of, passes_of, TestFits}
use Rattle.testing.specs.declared.Test.{Test}
use Rattle.testing.proofs.Laws.Testing.{prepared, test_fits}
use Rattle.verdicts.specs.Verdict.{unnamed_of, named_of, is_true, judged_of, single_judged}
use Rattle.searching.specs.declared.scan.Scan.{Scan}
use Rattle.searching.specs.Scan.{search_of, scan_at, onward_of}
use Rattle.searching.proofs.Laws.Scan.{StatesPassed, pass_begin, pass_within, pass_here, pass_more, onward_asks, pass_onward}
use Rattle.verdicts.proofs.Laws.Verdict.{true_at, Breaks, judged_broken, judged_whole}

-- ---- what is asked before the search
module _ (file : List ℕ) (g : Diagram) (r : Loaded file g) where
  pub small : length file ≤ 32768
  small = (promised file g r).small

  pub spans_serve : {spans : List ℕ} → spans ≡ spans_of file → Spans file spans
  spans_serve e = rw e (spans_right file small)

-- what was found, looked up
pub loads : {file : List ℕ} {o : Outline} {g : Diagram} → found_of file ≡ Ok o → g ≡ diagram_of file o → Loaded file g
loads e is = record { outline = _; found = e; is = is }

-- ---- the single test
module _ (file : List ℕ) (g : Diagram) (condition state : ℕ) where
  pub tested_eleven : total_of file g ≤ condition → single_judged file g condition state ≡ Err Refusal.ConditionNumber
  unfolding single_judged
  tested_eleven l = rw (le-leb _ _ l)

  pub tested_twelve : condition < total_of file g → g.states ≤ state → single_judged file g condition state ≡ Err Refusal.StateNumber
  unfolding single_judged
  tested_twelve l m = rw (lt-leb _ _ l, le-leb _ _ m)

  tested_whole : condition < total_of file g → state < g.states → {b : Bool}
      → b ≡ condition_holds file g (condition_at file g condition) (state_at g state)
      → single_judged file g condition state ≡ Ok b
  unfolding single_judged
  tested_whole l m e = rw (lt-leb _ _ l, lt-leb _ _ m, ← e)

-- so many conditions, from the first on, are true
pub record Searched (file : List ℕ) (g : Diagram) (number : ℕ) : Type 0 where
  pub passed : number ≤ total_of file g
  pub held : (k : ℕ) → k < number → is_true file g (condition_at file g k) ≡ true

-- the search was left at state n, the first that breaks the condition
abbrev pub Broke : List ℕ → Diagram → ℕ → List ℤ → ℕ → Type 0
Broke file g number state n = (state ≡ state_at g n) × Breaks file g (condition_at file g number) n

-- ---- with what is looked up once
pub record Ready (file : List ℕ) (g : Diagram) (total : ℕ) : Type 0 where
  pub loaded : Loaded file g
  pub total_is : total ≡ total_of file g

module _ {file : List ℕ} {g : Diagram} {total : ℕ} (h : Ready file g total) where
  keeps : Promise file g
  keeps = promised file g h.loaded

  pub states_small : g.states ≤ 1048576
  states_small = keeps.states.1

  pub total_small : total ≤ 2081
  total_small = rw h.total_is (total_most file g h.loaded)

  -- so many tests are counted in 64 bits
  pub tests_small : {number : ℕ} → number ≤ total → number * g.states ≤ 2182086656
  tests_small l = mul-le-mul (le_trans l total_small) states_small

  pub broke_small : {c : Condition} {n : ℕ} → Breaks file g c n → n ≤ 1048576
  broke_small b = omega (arith, b.state, states_small)

  -- ---- the state of a number
  pub state_asks : {n : ℕ} → n < g.states → Ranges g.low g.high × (n < count_of g.low g.high)
  state_asks l = (keeps.ranges, rw (← keeps.counted) l)

  state_is : (n : ℕ) {state : List ℤ} → state ≡ state_of g.low g.high n → state ≡ state_at g n
  state_is n e = e ∙ sym (state_at_lem g n)

  -- ---- a condition, and its tests at the states
  abbrev pub holds_at : ℕ → List ℤ → Bool
  holds_at number state = condition_holds file g (condition_at file g number) state

  pub passed_begin : (number : ℕ) → StatesPassed g (holds_at number) g.low 0
  passed_begin number = pass_begin file g h.loaded

  module _ {number : ℕ} (below : number < total) {c : Condition} (at : c ≡ condition_at file g number) where
    listed : Listed file g c
    listed = rw at (condition_listed file g h.loaded number (rw (← h.total_is) below))

    pub test_asks : (Loaded file g) × Listed file g c
    test_asks = (h.loaded, listed)

    pub named_asks : (node_number c ≤ 255) × (transition_number c ≤ 255)
    named_asks = names_small file g h.loaded c listed

    module _ {test : Test} (of : test ≡ test_of file g c) where
      pub test_asked : TestFits g.low g.high file test
      test_asked = rw of (test_fits file g h.loaded c listed)

      passes_is : (state : List ℤ) → passes_of g.low g.high file test state ≡ holds_at number state
      passes_is state = rw (of, ← at) (prepared file g h.loaded c listed state)

      -- one test
      module _ {n : ℕ} (l : n < g.states) {state : List ℤ} (e : state ≡ state_of g.low g.high n) where
        pub single_asks : Within g.low g.high state × TestFits g.low g.high file test
        single_asks = (rw (state_is n e) (state_numbered file g h.loaded n l).0, test_asked)

        pub single_answers : {b : Bool} → b ≡ passes_of g.low g.high file test state → single_judged file g number n ≡ Ok b
        single_answers f =
            tested_whole file g number n (rw (← h.total_is) below) l (rw (state_is n e) at (f ∙ passes_is state))

      -- one test after the other
      module _ {state : List ℤ} {n : ℕ} (p : StatesPassed g (holds_at number) state n) (l : n < g.states) where
        pub passed_asks : Within g.low g.high state × TestFits g.low g.high file test
        passed_asks = (pass_within file g h.loaded p l, test_asked)

        pub passed_more : passes_of g.low g.high file test state ≡ true → {after : List ℤ} → after ≡ advance_of g.low g.high state
            → StatesPassed g (holds_at number) after (n + 1)
        passed_more f = pass_more file g h.loaded p l (sym (passes_is state) ∙ f)

        pub passed_broke : passes_of g.low g.high file test state ≡ false → Broke file g number state n
        passed_broke f =
            let fails = pass_here file g h.loaded p l (sym (passes_is state) ∙ f) in
            (p.here l, record { state = l; held = p.held; fails = fails })

      -- skipping by boxes
      pub skip_asks : TestFits g.low g.high file test × (Ranges g.low g.high × (count_of g.low g.high ≤ 1048576))
      skip_asks = onward_asks file g h.loaded test_asked

      pub passed_onward : {state : List ℤ} {n : ℕ} → StatesPassed g (holds_at number) state n → (spans : List ℕ) (ask : ℕ) {to : Scan}
          → to ≡ onward_of file spans (search_of g test) g.states (scan_at state n ask)
          → StatesPassed g (holds_at number) to.state to.number × (n ≤ to.number)
      passed_onward = pass_onward file g h.loaded test_asked passes_is

  -- ---- the conditions
  module _ {number : ℕ} (s : Searched file g number) where
    pub searched_more : number < total → {state : List ℤ} {n : ℕ} → StatesPassed g (holds_at number) state n → g.states ≤ n
        → Searched file g (number + 1)
    searched_more l p z =
        record {
          passed = omega (arith, l, h.total_is);
          held = below_more _ number s.held (true_at file g (condition_at file g number) (λ k j. p.held k (omega (arith, j, z))));
        }

    pub searched_broke : number < total → {c : Condition} → c ≡ condition_at file g number → {state : List ℤ} {n : ℕ} → Broke file g number state n
        → {tests : ℕ} → tests ≡ number * g.states + n + 1 → named_of c number state tests ≡ judged_of file g
    searched_broke l at {n = n} b e =
        rw (at, b.0, e) (sym (judged_broken file g number (rw (← h.total_is) l) s.held n b.1))

    pub searched_end : total ≤ number → {tests : ℕ} → tests ≡ total * g.states → unnamed_of 0 total tests ≡ judged_of file g
    searched_end l e = rw (e, h.total_is) (sym (judged_whole file g (λ k j. s.held k (omega (arith, j, l, h.total_is)))))
