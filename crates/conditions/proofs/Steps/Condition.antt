-- The search for a node's first double edge, and the conditions by their layout, as the code has it. Assumes nothing.
use mathlib.Core.Path.{◌≡◌, sym, ap, ◌∙◌}
use mathlib.Core.Bool.{true, false, not}
use mathlib.Core.List.{List}
use Prim.Native.Nat.{ℕ, ◌+◌, ◌*◌, ◌-◌, ◌≤◌, ◌<◌}
use native.Mathlib.Omega.{arith}
use borrow.Author.Tests.{lt-ltb, le-ltb}
use Rattle.shapes.specs.declared.Edge.{Edge}
use Rattle.shapes.specs.Edge.{double_from}
use Rattle.diagrams.specs.declared.Diagram.{Diagram}
use Rattle.diagrams.specs.Diagram.{Loaded, edge_of}
use Rattle.diagrams.proofs.Laws.Diagram.{promised}
use Rattle.conditions.specs.Condition.{total_of, condition_at}
use Rattle.conditions.specs.Layout.{double_edge, double_of, layout_of, pair_of}
use Rattle.conditions.specs.declared.Blocks.{Blocks}
use Rattle.conditions.specs.declared.Condition.TheVariants.{Cover, Enabling}
use Rattle.truths.proofs.Laws.First.{first_is}
use Rattle.conditions.proofs.Laws.Double.{double_most}
use Rattle.conditions.proofs.Laws.Condition.{node_by, position_by, position_of, position_enabling, position_before, position_after}
use Rattle.conditions.proofs.Laws.Condition.{Bounds, Move, layout_bounds, total_is, condition_cover, condition_move}

module _ (file : List ℕ) (g : Diagram) (node : ℕ) where
  -- the first e edges are no double edges from the node
  pub record NotDoubled (e : ℕ) : Type 0 where
    pub most : e ≤ g.edges
    pub none : (k : ℕ) → k < e → double_from node (edge_of file g k) ≡ false

  module _ {e : ℕ} (p : NotDoubled e) where
    passed_found : (e < g.edges → double_from node (edge_of file g e) ≡ true) → double_edge file g node ≡ e
    unfolding double_edge
    passed_found f = first_is (λ k. not (double_from node (edge_of file g k))) g.edges e p.most (λ k l. ap not (p.none k l)) (λ l. ap not (f l))

    pub passed_end : g.edges ≤ e → g.transitions ≡ double_of file g node
    unfolding double_of
    passed_end l = rw (passed_found (λ m. absurd (omega arith)), le-ltb e g.edges l)

    -- the next edge is one
    pub passed_here : e < g.edges → {edge : Edge} → edge ≡ edge_of file g e → double_from node edge ≡ true
        → edge.transition ≡ double_of file g node
    unfolding double_of
    passed_here l is d = rw (passed_found (λ m. rw (← is) d), lt-ltb e g.edges l) (ap (λ (x : Edge). x.transition) is)

pub double_few : (file : List ℕ) (g : Diagram) → Loaded file g → (n : ℕ) {d : ℕ} → d ≡ double_of file g n → d ≤ 32
double_few file g r n is = rw is (omega (arith, double_most file g r n, (promised file g r).transitions))

-- ---- the layout that the code works with is the diagram's
module _ (file : List ℕ) (g : Diagram) (r : Loaded file g) {l : Blocks} (is : l ≡ layout_of g) where
  pub laid_bounds : Bounds file g l
  laid_bounds = rw is (layout_bounds file g r)

  pub laid_total : 1 + l.covers + (g.nodes - l.from) * l.size ≡ total_of file g
  laid_total = rw is (sym (total_is file g r))

  pub laid_cover : (k : ℕ) → 0 < k → k ≤ l.covers → Cover (k - 1) ≡ condition_at file g k
  laid_cover k a b = sym (condition_cover file g r k a (rw is at b))

  pub laid_move : (k : ℕ) → l.covers < k → k < total_of file g → Move file g l k
  laid_move k a b = rw is (condition_move file g r k (rw is at a) b)

module _ (file : List ℕ) (g : Diagram) {l : Blocks} {k : ℕ} (m : Move file g l k) {d : ℕ} (is : d ≡ double_of file g (node_by l k)) where
  moved : condition_at file g k ≡ position_of (node_by l k) d (position_by l k)
  moved = rw is m.found

  pub moved_enabling : position_by l k ≡ 2 * d + 2 → Enabling (node_by l k) d ≡ condition_at file g k
  moved_enabling e = sym (moved ∙ position_enabling (node_by l k) d (position_by l k) e)

  pub moved_before : position_by l k < 2 * d + 2 → pair_of (node_by l k) (position_by l k) ≡ condition_at file g k
  moved_before e = sym (moved ∙ position_before (node_by l k) d (position_by l k) e)

  pub moved_after : 2 * d + 2 < position_by l k → pair_of (node_by l k) (position_by l k - 1) ≡ condition_at file g k
  moved_after e = sym (moved ∙ position_after (node_by l k) d (position_by l k) e)
