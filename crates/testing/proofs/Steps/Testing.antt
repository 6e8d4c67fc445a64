-- The places chosen and the truths tried, one after the other; and a test, by what its step says, of a state and of a box.
-- Assumes nothing.
use mathlib.Core.Path.{◌≡◌, refl, sym, ap, subst, ◌∙◌}
use mathlib.Core.Bool.{Bool, true, false, not, cond}
use mathlib.Core.List.{List, [], ◌∷◌, ◌++◌, append-nil, append_assoc}
use Prim.Native.Nat.{ℕ, suc, ◌+◌, ◌-◌, ◌≤◌, ◌<◌}
use native.Mathlib.Numerals.{add-one}
use native.Mathlib.Omega.{arith}
use lib.ListN.{length, get_or, set, drop, replicate, length-append, drop_of_length-le}
use lib.Seq.{set_at, drop-cons}
use lib.Dec.{eqb}
use lib.IntN.{ℤ}
use Rattle.diagrams.specs.declared.Diagram.{Diagram}
use Rattle.diagrams.specs.Diagram.{Loaded, edge_of}
use Rattle.evaluating.specs.declared.Ends.{Ends}
use Rattle.evaluating.specs.declared.Stepped.TheVariants.{To}
use Rattle.expressions.specs.Expression.{holds_of}
use Rattle.expressions.specs.Fits.{TruthFits}
use Rattle.evaluating.specs.Step.{guard_of, enabled_of, step_of}
use Rattle.evaluating.specs.Fits.{TransitionFits}
use Rattle.conditions.specs.declared.Condition.{Condition}
use Rattle.conditions.specs.declared.Condition.TheVariants.{Step}
use Rattle.testing.specs.declared.Conclusion.{Conclusion}
use Rattle.testing.specs.declared.Targets.{Targets}
use Rattle.testing.specs.declared.Test.{Test}
use Rattle.conditions.specs.Edges.{carries, is_double}
use Rattle.diagrams.specs.System.{step_at}
use Rattle.diagrams.specs.Promise.{Promise}
use Rattle.diagrams.proofs.Laws.Diagram.{promised}
use Rattle.conditions.specs.Condition.{Listed}
use Rattle.truths.specs.Truth.{implies}
use Rattle.truths.proofs.Laws.Truth.{implies_true, implies_false}
use Rattle.testing.specs.Testing.{marks_of, chosen_from, targets_of, chosen_of, prepared_of, test_of}
use Rattle.testing.specs.Testing.{some_holds, some_in, targets_listed, concludes_of, TestFits}
use Rattle.conditions.specs.Layout.{double_of}
use Rattle.conditions.proofs.Laws.Condition.{Parts, listed_parts}
use Rattle.conditions.proofs.Laws.Double.{double_is}
use Rattle.testing.proofs.Laws.Targets.{chosen_last}
use Rattle.evaluating.proofs.Laws.Step.{ends_ranges, between_state, step_to, step_ends}
use Rattle.shapes.specs.declared.Edge.{Edge}
use Rattle.testing.proofs.Laws.Marks.{eqb_swap, Marked, marked_hit, marked_miss}
use Rattle.testing.proofs.Laws.Testing.{successors_pass, steps, steps_apart}
use Rattle.truths.specs.Listed.{all_pass}
use Rattle.states.specs.State.{Within}
use Rattle.states.specs.Ranges.{Ranges}
use Rattle.states.specs.Number.{states_between}
use Rattle.boxes.specs.declared.Box.{Box}
use Rattle.boxes.specs.Box.{Inside, Part}
use Rattle.boxes.proofs.Laws.Half.{part_inside, low_inside}
use Rattle.domains.specs.declared.seen.Seen.{Seen}
use Rattle.domains.specs.Seen.{either_of, sure_of}
use Rattle.domains.proofs.Laws.Seen.{either_none, either_assoc, sure_either}
use Rattle.enclosures.specs.Enclosure.{seen_of}
use Rattle.successors.specs.declared.Moved.{Moved}
use Rattle.successors.specs.Successor.{move_of}
use Rattle.successors.proofs.Laws.Successor.{to_low}

-- ---- the places chosen
module _ (marks : List Bool) (nodes : List ℕ) where
  chosen_next : (i : ℕ) → chosen_from marks nodes (i + 1) 0 ≡ chosen_from marks nodes i 0 ++ cond (get_or marks i false) (get_or nodes i 0 ∷ []) []
  chosen_next i = let z : 0 + i ≡ i = omega arith in rw (add-one i) (rw z at (chosen_last marks nodes i 0))

  module _ (n : ℕ) where
    -- the places chosen of the first i nodes; zeros beyond
    pub record Choosing (places : List ℕ) (count i : ℕ) : Type 0 where
      pub passed : i ≤ n
      pub few : count ≤ i
      pub counted : count ≡ length (chosen_from marks nodes i 0)
      pub filled : places ≡ chosen_from marks nodes i 0 ++ replicate (32 - count) 0

    pub choosing_begin : Choosing (replicate 32 0) 0 0
    unfolding chosen_from
    choosing_begin = record { passed = omega arith; few = omega arith; counted = refl; filled = refl }

    module _ {places : List ℕ} {count i : ℕ} (k : Choosing places count i) where
      pub choosing_end : n ≤ i → ◌≡◌ {A = Targets} (record { places = places; count = count }) (chosen_of marks nodes n)
      unfolding chosen_of targets_of
      choosing_end l =
          let same : i ≡ n = omega (arith, k.passed) in
          let c : count ≡ length (chosen_from marks nodes n 0) = rw same at k.counted in
          let f : places ≡ chosen_from marks nodes n 0 ++ replicate (32 - count) 0 = rw same at k.filled in
          rw (f, c)

      module _ (l : i < n) (m : n ≤ 32) where
        pub choosing_more : get_or marks i false ≡ true → Choosing (set places count (get_or nodes i 0)) (count + 1) (i + 1)
        choosing_more t =
            let next : chosen_from marks nodes (i + 1) 0 ≡ chosen_from marks nodes i 0 ++ (get_or nodes i 0 ∷ []) =
            rw t at (chosen_next i) in
            let z : 32 - count ≡ suc (32 - (count + 1)) = omega (arith, k.few) in
            record {
              passed = omega arith;
              few = omega (arith, k.few);
              counted = rw (next, length-append) (omega (arith, k.counted));
              filled =
                  rw (next, k.filled, z, append_assoc)
                  (set_at (chosen_from marks nodes i 0) 0 (replicate (32 - (count + 1)) 0) (get_or nodes i 0) count (sym k.counted));
            }

        pub choosing_skip : get_or marks i false ≡ false → Choosing places count (i + 1)
        choosing_skip t =
            let next : chosen_from marks nodes (i + 1) 0 ≡ chosen_from marks nodes i 0 =
            rw t at (chosen_next i) ∙ append-nil (chosen_from marks nodes i 0) in
            record { passed = omega arith; few = omega (arith, k.few); counted = rw next k.counted; filled = rw next k.filled }

-- ---- the marks that the edges make, one after the other
module _ (file : List ℕ) (g : Diagram) (r : Loaded file g) (node transition : ℕ) (keep : Bool) where
  abbrev pub MarkedBy : List Bool → ℕ → Type 0
  MarkedBy = Marked 32 keep node g.edges 0 (λ i. carries node transition (edge_of file g i)) (λ i. (edge_of file g i).to)

  module _ {marks : List Bool} {e : ℕ} (k : MarkedBy marks e) (l : e < g.edges) {x : Edge} (is : x ≡ edge_of file g e) where
    pub target_small : x.to < 32
    target_small = rw is (omega (arith, ((promised file g r).edge e l).to, (promised file g r).nodes.1))

    module _ {c : Bool} (cs : c ≡ carries node transition x) where
      carried : {b : Bool} → c ≡ b → carries node transition (edge_of file g (0 + e)) ≡ b
      carried t = let z : 0 + e ≡ e = omega arith in rw (z, ← is) (sym cs ∙ t)

      pub mark_hit : c ≡ true → MarkedBy (set marks x.to true) (e + 1)
      mark_hit t =
          let z : 0 + e ≡ e = omega arith in
          let to : x.to ≡ (edge_of file g (0 + e)).to = rw (z, is) refl in
          marked_hit 32 keep node g.edges 0 _ _ k l to (rw (← to) target_small) (carried t)

      pub mark_miss : c ≡ false → MarkedBy marks (e + 1)
      mark_miss t = marked_miss 32 keep node g.edges 0 _ _ k l (carried t)

-- ---- the truths tried, of a list of places; place i is next
module _ (file places : List ℕ) (i : ℕ) where
  no_place : length places ≤ i → drop i places ≡ []
  no_place h = drop_of_length-le places {i = i} h

  next_place : i < length places → drop i places ≡ get_or places i 0 ∷ drop (i + 1) places
  next_place below = rw (add-one, drop-cons places i 0 below)

  -- at a state
  module _ (state : List ℤ) where
    pub some_end : length places ≤ i → some_holds file (drop i places) state ≡ false
    unfolding some_holds
    some_end h = rw (no_place h)

    pub some_here : i < length places → holds_of file (get_or places i 0) state ≡ true → some_holds file (drop i places) state ≡ true
    unfolding some_holds
    some_here below t = rw (next_place below, t)

    pub some_later : i < length places → holds_of file (get_or places i 0) state ≡ false
        → some_holds file (drop i places) state ≡ some_holds file (drop (i + 1) places) state
    unfolding some_holds
    some_later below t = ap (λ (l : List ℕ). some_holds file l state) (next_place below) ∙ rw t

  -- on a box, where p is seen of the places before
  module _ (b : Box) (p : Seen) (so_far : either_of p (some_in file (drop i places) b) ≡ some_in file places b) where
    pub in_end : length places ≤ i → p ≡ some_in file places b
    unfolding some_in
    in_end h = sym (either_none p) ∙ rw (no_place h) at so_far

    module _ (below : i < length places) {here q : Seen} (h : here ≡ seen_of file (get_or places i 0) b) (is : q ≡ either_of p here) where
      pub in_later : either_of q (some_in file (drop (i + 1) places) b) ≡ some_in file places b
      unfolding some_in
      in_later = rw (is, h) (either_assoc p _ _ ∙ rw (next_place below) at so_far)

      pub in_sure : sure_of q ≡ true → q ≡ some_in file places b
      in_sure e = sure_either q _ e ∙ in_later

-- ---- a test
module _ (lows highs : List ℤ) (file : List ℕ) (test : Test) (state : List ℤ) where
  pub concludes_range : test.conclusion ≡ Conclusion.ValuesInRange
      → {b : Bool} → implies (guard_of file test.transition state) (enabled_of lows highs file test.transition state) ≡ b
      → b ≡ concludes_of lows highs file test test.conclusion state
  unfolding concludes_of
  concludes_range k s = rw (k, s)

  pub concludes_enabled : test.conclusion ≡ Conclusion.Enabled → {b : Bool} → enabled_of lows highs file test.transition state ≡ b
      → b ≡ concludes_of lows highs file test test.conclusion state
  unfolding concludes_of
  concludes_enabled k s = rw (k, s)

  module _ (k : test.conclusion ≡ Conclusion.Reached) where
    pub concludes_idle : enabled_of lows highs file test.transition state ≡ false → true ≡ concludes_of lows highs file test test.conclusion state
    unfolding concludes_of
    concludes_idle e = rw (k, successors_pass lows highs file test.transition state, e) (sym (implies_false _))

    module _ {x : Ends} (is : To x ≡ step_of lows highs file test.transition state) where
      enabled : enabled_of lows highs file test.transition state ≡ true
      enabled = (step_to lows highs file test.transition state is).1

      pub concludes_reached : all_pass (some_holds file (targets_listed test)) (states_between x.low x.high)
          ≡ concludes_of lows highs file test test.conclusion state
      unfolding concludes_of
      concludes_reached =
          rw (k, successors_pass lows highs file test.transition state, enabled, step_ends lows highs file test.transition state is)
          (sym (implies_true _))

      -- what the targets ask: they can be evaluated between the ends
      module _ (fits : TestFits lows highs file test) (w : Within lows highs state) where
        transition_fits : TransitionFits file test.transition state
        transition_fits = fits.transition (steps_apart k refl) state w

        pub reached_ranges : Ranges x.low x.high
        reached_ranges = rw (step_ends lows highs file test.transition state is) (ends_ranges file test.transition state w transition_fits)

        pub reached_fits : (next : List ℤ) → Within x.low x.high next → (i : ℕ) → i < test.targets.count → TruthFits file (get_or test.targets.places i 0) next
        reached_fits next b i l =
            let between = rw (step_ends lows highs file test.transition state is) at b in
            fits.targets i l next (between_state lows highs file test.transition state enabled w between)

-- what a test on a box asks: its premise and its targets are evaluated at the low ends, and the targets of a step at those of the box that it leads to
module _ {ranges : Box} {file : List ℕ} {test : Test} (fits : TestFits ranges.low ranges.high file test) {b : Box} (part : Part ranges b) where
  low : Inside ranges b.low
  low = part_inside part (low_inside part)

  pub premise_in : TruthFits file test.premise b.low
  premise_in = fits.premise _ low

  pub targets_in : (i : ℕ) → i < test.targets.count → TruthFits file (get_or test.targets.places i 0) b.low
  targets_in i l = fits.targets i l _ low

  pub transition_in : {c : Conclusion} → test.conclusion ≡ c → steps c ≡ true → TransitionFits file test.transition b.low
  transition_in e t = fits.transition (steps_apart e t) _ low

  pub reached_in : {m : Moved} → m ≡ move_of ranges file test.transition b
      → (i : ℕ) → i < test.targets.count → TruthFits file (get_or test.targets.places i 0) m.to.low
  reached_in is i l = rw is (fits.targets i l _ (to_low ranges file test.transition b low))

-- ---- the test of a condition
module _ (file : List ℕ) (g : Diagram) (r : Loaded file g) where
  pub parts_of : {c d : Condition} → Listed file g c → c ≡ d → Parts g d
  parts_of {c} listed e = subst (Parts g) e (listed_parts file g r c listed)

  pub keeps : Promise file g
  keeps = promised file g r

  pub test_step : {c : Condition} {n t : ℕ} → c ≡ Step n t → t < g.transitions → {double : ℕ} → double ≡ double_of file g n
      → {marks : List Bool} → marks ≡ marks_of file g n t (not (eqb double t)) → {q : Targets} → q ≡ chosen_of marks g.assertions g.nodes
      → prepared_of (get_or g.assertions n 0) Conclusion.Reached (step_at g t) q ≡ test_of file g c
  unfolding test_of
  test_step {n} {t} e l {double} d {marks} k q =
      let same : eqb double t ≡ is_double file g n t = eqb_swap double t ∙ ap (eqb t) d ∙ sym (double_is file g r n t l) in
      let chosen : marks ≡ marks_of file g n t (not (is_double file g n t)) = rw same at k in
      rw (e, q, chosen)
