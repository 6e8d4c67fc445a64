-- What a condition says, by its kind, and where one of several nodes holds.
--     start_says, entry_says, cover_says, range_says, step_says, enabling_says     each kind of condition (C8.7 to C8.11, C8.13)
--     leads_either     a step leads to the node itself, unless by double edges, or to a target (C8.11, C8.12)
--     node_some        where some node holds, there is one
--     target_some      where some target does, there is an edge to one
-- Assumes nothing.
use mathlib.Core.Path.{◌≡◌, refl, subst}
use mathlib.Core.Bool.{true, not, ◌&&◌, ◌||◌, and-eq-true_iff}
use mathlib.Core.List.{List}
use Prim.Native.Nat.{ℕ, ◌<◌}
use native.Mathlib.Nat.{zero-add}
use lib.IntN.{ℤ}
use Rattle.truths.specs.Truth.{implies}
use Rattle.truths.specs.Listed.{all_pass}
use Rattle.truths.proofs.Laws.Any.{any_some}
use Rattle.diagrams.specs.declared.Diagram.{Diagram}
use Rattle.diagrams.specs.Diagram.{edge_of}
use Rattle.diagrams.specs.Truth.{start_holds, node_holds, p_holds, q_holds}
use Rattle.diagrams.specs.System.{guard_holds, values_fit, is_enabled, next_states}
use Rattle.conditions.specs.Edges.{carries, is_double}
use Rattle.conditions.specs.declared.Condition.TheVariants.{Start, Entry, Cover, Range, Step, Enabling}
use Rattle.testing.specs.Holding.{some_node, some_target, step_leads, condition_holds}

module _ (file : List ℕ) (g : Diagram) (s : List ℤ) where
  pub start_says : condition_holds file g Start s ≡ implies (start_holds file g s) (some_node file g s)
  unfolding condition_holds
  start_says = refl

  pub entry_says : condition_holds file g Entry s ≡ implies (p_holds file g s) (some_node file g s)
  unfolding condition_holds
  entry_says = refl

  pub cover_says : (n : ℕ) → condition_holds file g (Cover n) s ≡ implies (node_holds file g n s) (q_holds file g n s)
  unfolding condition_holds
  cover_says n = refl

  module _ (n t : ℕ) where
    pub range_says : condition_holds file g (Range n t) s ≡ implies (node_holds file g n s && guard_holds file g t s) (values_fit file g t s)
    unfolding condition_holds
    range_says = refl

    pub step_says : condition_holds file g (Step n t) s ≡ implies (node_holds file g n s) (all_pass (step_leads file g n t) (next_states file g t s))
    unfolding condition_holds
    step_says = refl

    pub enabling_says : condition_holds file g (Enabling n t) s ≡ implies (node_holds file g n s) (is_enabled file g t s)
    unfolding condition_holds
    enabling_says = refl

  pub node_some : some_node file g s ≡ true → (n : ℕ) × (n < g.nodes) × (node_holds file g n s ≡ true)
  unfolding some_node
  node_some e =
      let x = any_some (λ n. node_holds file g n s) g.nodes 0 e in
      (x.which, x.below, subst (λ (n : ℕ). node_holds file g n s ≡ true) (zero-add x.which) x.passes)

module _ (file : List ℕ) (g : Diagram) (n t : ℕ) (s : List ℤ) where
  pub leads_either : step_leads file g n t s ≡ ((not (is_double file g n t) && node_holds file g n s) || some_target file g n t s)
  unfolding step_leads
  leads_either = refl

  pub target_some : some_target file g n t s ≡ true
      → (e : ℕ) × (e < g.edges) × (carries n t (edge_of file g e) ≡ true) × (node_holds file g (edge_of file g e).to s ≡ true)
  unfolding some_target
  target_some y =
      let x = any_some (λ e. carries n t (edge_of file g e) && node_holds file g (edge_of file g e).to s) g.edges 0 y in
      let e = x.which in
      let p = (and-eq-true_iff (carries n t (edge_of file g e)) (node_holds file g (edge_of file g e).to s)).0
      (subst (λ (i : ℕ). (carries n t (edge_of file g i) && node_holds file g (edge_of file g i).to s) ≡ true) (zero-add e) x.passes) in
      (e, x.below, p.0, p.1)
