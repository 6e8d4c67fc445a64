-- Where every listed condition holds at every state, what the file claims is true of every run of its system.
--     sound     by the theorem of the claim's kind: the diagram's edges and listed conditions meet what it asks (C12.11)
-- Assumes nothing.
use mathlib.Core.Path.{◌≡◌, refl, sym, subst, ◌∙◌}
use mathlib.Core.Logic.{◌⊎◌, ◌≢◌, inl, inr}
use mathlib.Core.Bool.{true, false, not, ◌&&◌, false≢true}
use mathlib.Core.List.{List}
use Prim.Native.Nat.{ℕ, suc, ◌-◌, ◌≤◌, ◌<◌}
use native.Mathlib.Omega.{arith}
use borrow.Author.Tests.{eq-eqb, eqb-true}
use lib.Dec.{T, T_not}
use lib.IntN.{ℤ}
use Rattle.truths.specs.Listed.{all_pass}
use Rattle.truths.proofs.Laws.Listed.{all_pass_member}
use Rattle.truths.proofs.Laws.Truth.{is_true, so_true, implied, both, left, right, either}
use Rattle.shapes.specs.declared.Claim.{Claim as Kind}
use Rattle.shapes.specs.Property.{property_of}
use Rattle.shapes.proofs.Laws.Property.{invariance_row, wait_for_row, chain_row, unknown}
use Rattle.diagrams.specs.declared.Diagram.{Diagram}
use Rattle.diagrams.specs.Diagram.{Loaded, State, edge_of}
use Rattle.diagrams.specs.Truth.{start_holds, node_holds, p_holds, q_holds}
use Rattle.diagrams.specs.System.{just_of, guard_holds, values_fit, is_enabled, next_states}
use Rattle.diagrams.specs.Promise.{DoubleTransition, Promise}
use Rattle.diagrams.proofs.Laws.Diagram.{promised}
use Rattle.diagrams.proofs.Laws.Truth.{q_only}
use Rattle.diagrams.proofs.Laws.System.{enabled_and}
use Rattle.conditions.specs.Edges.{is_double}
use Rattle.conditions.specs.Condition.{Listed}
use Rattle.conditions.specs.Layout.{double_of}
use Rattle.conditions.specs.declared.Condition.{Condition}
use Rattle.conditions.specs.declared.Condition.TheVariants.{Start, Entry, Cover, Range, Step, Enabling}
use Rattle.conditions.proofs.Laws.Double.{carries_parts, edge_double, double_is}
use Rattle.conditions.proofs.Laws.Listed.{start_in, entry_in, covered_in, goal_in, range_in_lem, step_in, enabling_in}
use Rattle.testing.specs.Holding.{some_node, some_target, step_leads, condition_holds}
use Rattle.testing.proofs.Laws.Holding.{node_some, target_some, leads_either, start_says, entry_says, cover_says, range_says, step_says, enabling_says}
use Rattle.runs.specs.Run.{Successor}
use Rattle.runs.proofs.Laws.Diagram.{Diagram as Drawn, SomeNode, Target, RangeAt, StepAt, ChainStepAt, Entered, Covered, EnabledAt}
use Rattle.runs.proofs.Laws.Diagram.{InvarianceConditions, WaitForConditions, ChainConditions}
use Rattle.runs.proofs.Laws.Invariance.{invariance, invariance_in_range}
use Rattle.runs.proofs.Laws.WaitFor.{wait_for, wait_for_in_range}
use Rattle.runs.proofs.Laws.Chain.{chain, chain_in_range}
use Rattle.soundness.specs.System.{system_of, Claimed}

-- an edge of the diagram, of transition t from node i to node j
record EdgeFrom (file : List ℕ) (g : Diagram) (t i j : ℕ) : Type 0 where
  pub number : ℕ
  pub there : number < g.edges
  pub carried : (edge_of file g number).transition ≡ t
  pub from : (edge_of file g number).from ≡ i
  pub to : (edge_of file g number).to ≡ j

-- the diagram, as the theorems about runs see it
abbrev drawn : List ℕ → Diagram → Drawn (List ℤ)
drawn file g = record { nodes = g.nodes; node = node_holds file g; Edge = EdgeFrom file g; double = double_of file g }

-- ---- what each condition says, where it holds at every state
module _ (file : List ℕ) (g : Diagram) where
  abbrev Holds : Condition → Type 0
  Holds c = (state : List ℤ) → State g state → condition_holds file g c state ≡ true

  some_node_lem : (s : List ℤ) → T (some_node file g s) → SomeNode g.nodes (node_holds file g) s
  some_node_lem s t = let x = node_some file g s (is_true _ t) in (x.0, x.1, so_true _ x.2)

  start_holds_lem : Holds Start → Entered (system_of file g) (drawn file g) (start_holds file g)
  start_holds_lem h s w t = some_node_lem s (implied (start_holds file g s) (some_node file g s) (sym (start_says file g s) ∙ h s w) t)

  entry_holds : Holds Entry → Entered (system_of file g) (drawn file g) (p_holds file g)
  entry_holds h s w t = some_node_lem s (implied (p_holds file g s) (some_node file g s) (sym (entry_says file g s) ∙ h s w) t)

  cover_holds : (i : ℕ) → Holds (Cover i) → Covered (system_of file g) (drawn file g) i (q_holds file g i)
  cover_holds i h s w t = implied (node_holds file g i s) (q_holds file g i s) (sym (cover_says file g s i) ∙ h s w) t

  range_holds : (i t : ℕ) → Holds (Range i t) → RangeAt (system_of file g) (drawn file g) i t
  range_holds i t h s w y z =
      implied (node_holds file g i s && guard_holds file g t s) (values_fit file g t s) (sym (range_says file g s i t) ∙ h s w)
      (both (node_holds file g i s) (guard_holds file g t s) y z)

  enabling_holds : (i t : ℕ) → Holds (Enabling i t) → EnabledAt (system_of file g) (drawn file g) i t
  enabling_holds i t h s w y =
      subst T (enabled_and file g t s) (implied (node_holds file g i s) (is_enabled file g t s) (sym (enabling_says file g s i t) ∙ h s w) y)

module _ (file : List ℕ) (g : Diagram) (r : Loaded file g) where
  keeps : Promise file g
  keeps = promised file g r

  target : (i t : ℕ) (s : List ℤ) → T (some_target file g i t s) → Target (system_of file g) (drawn file g) t i s
  target i t s y =
      let x = target_some file g i t s (is_true _ y) in
      let named = (carries_parts i t (edge_of file g x.0)).0 x.2 in (
        (edge_of file g x.0).to,
        (keeps.edge x.0 x.1).to,
        record { number = x.0; there = x.1; carried = named.1; from = named.0; to = refl },
        so_true _ x.3,
      )

  -- each successor of a step satisfies the node itself, if t is not its double transition, or a target
  abbrev Reached : ℕ → ℕ → List ℤ → Type 0
  Reached i t s = (T (not (is_double file g i t)) × T (node_holds file g i s)) ⊎ Target (system_of file g) (drawn file g) t i s

  reached : (i t : ℕ) (s : List ℤ) → T (step_leads file g i t s) → Reached i t s
  reached i t s y =
      go (either (not (is_double file g i t) && node_holds file g i s) (some_target file g i t s) (subst T (leads_either file g i t s) y))
    where
      go : T (not (is_double file g i t) && node_holds file g i s) ⊎ T (some_target file g i t s) → Reached i t s
      go (inl z) = inl (left (not (is_double file g i t)) (node_holds file g i s) z, right (not (is_double file g i t)) (node_holds file g i s) z)
      go (inr z) = inr (target i t s z)

  step_holds : (i t : ℕ) → Holds file g (Step i t) → (s s' : List ℤ) → State g s → T (node_holds file g i s)
      → Successor (system_of file g) t s s' → Reached i t s'
  step_holds i t h s s' w y (act, m) =
      let all = implied (node_holds file g i s) (all_pass (step_leads file g i t) (next_states file g t s)) (sym (step_says file g s i t) ∙ h s w) y in
      reached i t s' (so_true _ (all_pass_member (step_leads file g i t) (next_states file g t s) s' (is_true _ all) m))

  keep : (i t : ℕ) → Holds file g (Step i t) → StepAt (system_of file g) (drawn file g) i t
  keep i t h s s' w y z = go (step_holds i t h s s' w y z)
    where
      go : Reached i t s' → T (node_holds file g i s') ⊎ Target (system_of file g) (drawn file g) t i s'
      go (inl (a, b)) = inl b
      go (inr x) = inr x

  -- where edges don't rise
  not_up : (property_of g.claim).rising ≡ false → (t i j : ℕ) → EdgeFrom file g t i j → j ≤ i
  not_up level t i j x =
      let l = (keeps.edge x.number x.there).level level in
      let a = x.from in
      let b = x.to in
      omega (arith, l, a, b)

  module _ (all : (c : Condition) → Listed file g c → Holds file g c) where
    -- ---- invariance
    module _ (kind : g.claim ≡ Kind.Invariance) where
      every : (i : ℕ) → (property_of g.claim).from ≤ i
      every i = rw (kind, invariance_row) (omega arith)

      invariance_conditions : InvarianceConditions (system_of file g) (drawn file g) (q_holds file g 0)
      invariance_conditions =
          record {
            start = start_holds_lem file g (all Start (start_in file g (rw (kind, invariance_row) refl)));
            cover = λ i h s w t.
                subst T (q_only file g s (rw (kind, invariance_row) refl) i)
                (cover_holds file g i (all (Cover i) (covered_in file g (rw (kind, invariance_row) refl) i h)) s w t);
            range = λ i h t ht. range_holds file g i t (all (Range i t) (range_in_lem file g i t (every i) h ht));
            step = λ i h t ht. keep i t (all (Step i t) (step_in file g i t (every i) h ht));
          }

    -- ---- wait_for
    module _ (kind : g.claim ≡ Kind.WaitFor) where
      waiting_count : g.nodes ≡ suc (g.nodes - 1)
      waiting_count = omega (arith, keeps.nodes.0)

      above : (i : ℕ) → 1 ≤ i → (property_of g.claim).from ≤ i
      above i one = rw (kind, wait_for_row) one

      waiting_conditions : WaitForConditions (system_of file g) (drawn file g) (p_holds file g) (g.nodes - 1) (q_holds file g)
      waiting_conditions =
          record {
            count = waiting_count;
            not_up = not_up (rw (kind, wait_for_row) refl);
            entry = entry_holds file g (all Entry (entry_in file g (rw (kind, wait_for_row) refl)));
            cover = λ i h. cover_holds file g i (all (Cover i) (covered_in file g (rw (kind, wait_for_row) refl) i h));
            range = λ i one h t ht. range_holds file g i t (all (Range i t) (range_in_lem file g i t (above i one) h ht));
            step = λ i one h t ht. keep i t (all (Step i t) (step_in file g i t (above i one) h ht));
          }

    -- ---- chain
    module _ (kind : g.claim ≡ Kind.Chain) where
      falls : (property_of g.claim).rising ≡ false
      falls = rw (kind, chain_row) refl

      behind : (i : ℕ) → 1 ≤ i → (property_of g.claim).from ≤ i
      behind i one = rw (kind, chain_row) one

      module _ (i : ℕ) (one : 1 ≤ i) (below : i < g.nodes) where
        its : DoubleTransition file g i
        its = keeps.doubled (rw (kind, chain_row) refl) i (behind i one) below

        -- the record's transition leaves the node by a double edge
        leaves : is_double file g i its.transition ≡ true
        leaves =
            edge_double file g i its.transition its.edge
            (record { there = its.edge_there; from = its.edge_from; carried = its.edge_carries; double = its.edge_double })

        double_of_lem : its.transition ≡ double_of file g i
        double_of_lem = eqb-true _ _ (sym (double_is file g r i its.transition its.there) ∙ leaves)

        double_there : double_of file g i < g.transitions
        double_there = subst (λ (t : ℕ). t < g.transitions) double_of_lem its.there

        double_just : T (just_of file g (double_of file g i))
        double_just = so_true _ (subst (λ (t : ℕ). just_of file g t ≡ true) double_of_lem its.just)

        double_leaves : is_double file g i (double_of file g i) ≡ true
        double_leaves = subst (λ (t : ℕ). is_double file g i t ≡ true) double_of_lem leaves

        double_down : (j : ℕ) → EdgeFrom file g (double_of file g i) i j → j < i
        double_down j x =
            let d = its.never_single x.number x.there x.from (x.carried ∙ sym double_of_lem) in
            let l = (keeps.edge x.number x.there).down d falls in
            let a = x.from in
            let b = x.to in
            omega (arith, l, a, b)

        chain_step : (t : ℕ) → t < g.transitions → Holds file g (Step i t) → ChainStepAt (system_of file g) (drawn file g) i t
        chain_step t there h s s' w y z = go (step_holds i t h s s' w y z)
          where
            go : Reached i t s' → ((t ≢ double_of file g i) × T (node_holds file g i s')) ⊎ Target (system_of file g) (drawn file g) t i s'
            go (inl (a, b)) = inl (λ e. T_not (is_double file g i t) a (so_true _ (double_is file g r i t there ∙ eq-eqb _ _ e)), b)
            go (inr x) = inr x

      chain_conditions : ChainConditions (system_of file g) (drawn file g) (p_holds file g) (q_holds file g 0)
      chain_conditions =
          record {
            not_up = not_up falls;
            double_down = λ i j one h x. double_down i one h j x;
            double_transition = double_there;
            double_just = double_just;
            entry = entry_holds file g (all Entry (entry_in file g (rw (kind, chain_row) refl)));
            cover = cover_holds file g 0 (all (Cover 0) (goal_in file g r));
            range = λ i one h t ht. range_holds file g i t (all (Range i t) (range_in_lem file g i t (behind i one) h ht));
            step = λ i one h t ht. chain_step i one h t ht (all (Step i t) (step_in file g i t (behind i one) h ht));
            enabling = λ i one h.
                let t = double_of file g i in
                enabling_holds file g i t
                (all (Enabling i t) (enabling_in file g i t (behind i one) h (double_there i one h) (double_leaves i one h)));
          }

    by_kind : (k : Kind) → g.claim ≡ k → Claimed file g k
    unfolding Claimed
    by_kind Kind.Invariance kind =
        let c = invariance_conditions kind in
        (invariance (system_of file g) (drawn file g) (q_holds file g 0) c, invariance_in_range (system_of file g) (drawn file g) (q_holds file g 0) c)
    by_kind Kind.WaitFor kind =
        let c = waiting_conditions kind in
        let m = g.nodes - 1 in (
          wait_for (system_of file g) (drawn file g) (p_holds file g) m (q_holds file g) c,
          wait_for_in_range (system_of file g) (drawn file g) (p_holds file g) m (q_holds file g) c,
        )
    by_kind Kind.Chain kind =
        let c = chain_conditions kind in (
          chain (system_of file g) (drawn file g) (p_holds file g) (q_holds file g 0) c,
          chain_in_range (system_of file g) (drawn file g) (p_holds file g) (q_holds file g 0) c,
        )
    by_kind Kind.Unknown kind = absurd (false≢true (sym unknown ∙ rw kind at keeps.known))

pub sound : (file : List ℕ) (g : Diagram) → Loaded file g
    → ((c : Condition) → Listed file g c → (state : List ℤ) → State g state → condition_holds file g c state ≡ true)
    → Claimed file g g.claim
sound file g r all = by_kind file g r all g.claim refl
