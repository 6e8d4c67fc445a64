-- Laws of the edges that carry a transition from a node, and of the double transition of a node.
--     carries_parts               an edge carries a transition from a node exactly if it leads from that node and is one of that transition
--     carries_is                  by tests
--     double_edge_lem, edge_double    a transition leaves a node by double edges exactly if there is such an edge
--     double_is                   it is then the node's double transition
--     double_some, double_none    where edges may be double each node that edges lead from has one; else no node has
--     double_most                 it is at most one past the file's transitions
-- Assumes nothing.
use mathlib.Core.Path.{◌≡◌, refl, sym, ◌∙◌}
use mathlib.Core.Logic.{◌⊎◌, inl, inr}
use mathlib.Core.Bool.{Bool, true, false, not, ◌&&◌, and-eq-true_iff, false≢true}
use mathlib.Core.List.{List}
use Prim.Native.Nat.{ℕ, ◌+◌, ◌≤◌, ◌<◌}
use native.Mathlib.Decide.{dec_lt}
use native.Mathlib.Omega.{arith}
use borrow.Author.Tests.{eq-eqb, ne_eqb, eqb-true, eqb-false, lt-ltb, le-ltb, not-false}
use lib.Dec.{eqb}
use Rattle.shapes.specs.declared.Edge.{Edge}
use Rattle.shapes.specs.Property.{property_of}
use Rattle.shapes.specs.Edge.{double_from}
use Rattle.shapes.proofs.Laws.Edge.{double_from_lem, from_double}
use Rattle.diagrams.specs.declared.Diagram.{Diagram}
use Rattle.diagrams.specs.Diagram.{Loaded, edge_of}
use Rattle.diagrams.proofs.Laws.Diagram.{promised}
use Rattle.truths.proofs.Laws.Any.{any_some, any_below}
use Rattle.truths.proofs.Laws.First.{first_passes, first_fails}
use Rattle.conditions.specs.Edges.{carries, is_double}
use Rattle.conditions.specs.Layout.{double_edge, double_of}

pub carries_parts : (n t : ℕ) (e : Edge)
    → (carries n t e ≡ true → (e.from ≡ n) × (e.transition ≡ t)) × ((e.from ≡ n) × (e.transition ≡ t) → carries n t e ≡ true)
unfolding carries
carries_parts n t e =
    let both = and-eq-true_iff (eqb e.from n) (eqb e.transition t) in
    (λ c. (eqb-true _ _ (both.0 c).0, eqb-true _ _ (both.0 c).1), λ p. both.1 (eq-eqb _ _ p.0, eq-eqb _ _ p.1))

pub carries_is : (n t : ℕ) (e : Edge) → carries n t e ≡ (eqb e.from n && eqb e.transition t)
unfolding carries
carries_is n t e = refl

module _ (file : List ℕ) (g : Diagram) where
  -- edge e is a double edge of transition t from node n
  pub record DoubleEdge (n t e : ℕ) : Type 0 where
    pub there : e < g.edges
    pub from : (edge_of file g e).from ≡ n
    pub carried : (edge_of file g e).transition ≡ t
    pub double : (edge_of file g e).double ≡ true

  pub edge_double : (n t e : ℕ) → DoubleEdge n t e → is_double file g n t ≡ true
  unfolding is_double
  edge_double n t e h =
      any_below (λ i. carries n t (edge_of file g i) && (edge_of file g i).double) g.edges e h.there
      ((and-eq-true_iff _ _).1 ((carries_parts n t (edge_of file g e)).1 (h.from, h.carried), h.double))

  pub double_edge_lem : (n t : ℕ) → is_double file g n t ≡ true → (e : ℕ) × DoubleEdge n t e
  unfolding is_double
  double_edge_lem n t is =
      let s = any_some (λ i. carries n t (edge_of file g i) && (edge_of file g i).double) g.edges 0 is in
      let e = edge_of file g (0 + s.which) in
      let p = (and-eq-true_iff (carries n t e) e.double).0 s.passes in
      let q = (carries_parts n t e).0 p.0 in
      (0 + s.which, record { there = omega (arith, s.below); from = q.0; carried = q.1; double = p.1 })

  double_missed : (n t : ℕ) → ((e : ℕ) → DoubleEdge n t e → ⊥) → is_double file g n t ≡ false
  double_missed n t never = by (is_double file g n t) refl
    where
      by : (b : Bool) → is_double file g n t ≡ b → b ≡ false
      by true is = let s = double_edge_lem n t is in absurd (never s.0 s.1)
      by false is = refl

  -- the node has a double edge, of that transition; or it has none
  abbrev Found : ℕ → Type 0
  Found n = ((e : ℕ) × DoubleEdge n (double_of file g n) e) ⊎ (((t e : ℕ) → DoubleEdge n t e → ⊥) × (double_of file g n ≡ g.transitions))

  double_found : (n : ℕ) → Found n
  unfolding double_of double_edge
  double_found n = go (dec_lt (double_edge file g n) g.edges)
    where
      test : ℕ → Bool
      test e = not (double_from n (edge_of file g e))

      never : (e : ℕ) → (edge_of file g e).from ≡ n → (edge_of file g e).double ≡ true → test e ≡ true → ⊥
      never e from double passes = false≢true (rw (from_double (edge_of file g e) double from) at passes)

      go : Dec (double_edge file g n < g.edges) → Found n
      go (yes l) =
          let p = double_from_lem _ (not-false _ (first_fails test g.edges l)) in
          inl (double_edge file g n, record { there = l; from = p.1; carried = rw (lt-ltb _ _ l); double = p.0 })
      go (no l) =
          inr (
            λ t e h. never e h.from h.double (first_passes test g.edges e (omega (arith, h.there))),
            rw (le-ltb (double_edge file g n) g.edges (omega arith)),
          )

module _ (file : List ℕ) (g : Diagram) (r : Loaded file g) where
  -- double edges of one node carry one transition
  double_agree : (n t u i j : ℕ) → DoubleEdge file g n t i → DoubleEdge file g n u j → t ≡ u
  double_agree n t u i j h k =
      let p = promised file g r in
      let e = p.edge i h.there in
      let d = p.doubled (e.may_double h.double) n (rw h.from at e.leads) (rw h.from at e.from) in
      sym h.carried ∙ d.only i h.there h.from h.double ∙ sym (d.only j k.there k.from k.double) ∙ k.carried

  pub double_is : (n t : ℕ) → t < g.transitions → is_double file g n t ≡ eqb t (double_of file g n)
  double_is n t l = by (double_found file g n)
    where
      found : {e : ℕ} → DoubleEdge file g n (double_of file g n) e → (b : Bool) → eqb t (double_of file g n) ≡ b → is_double file g n t ≡ b
      found h true is = let same : t ≡ double_of file g n = eqb-true _ _ is in rw same (edge_double file g n (double_of file g n) _ h)
      found h false is = double_missed file g n t (λ e k. eqb-false t (double_of file g n) is (double_agree n _ _ _ _ k h))

      by : Found file g n → is_double file g n t ≡ eqb t (double_of file g n)
      by (inl (e, h)) = found h (eqb t (double_of file g n)) refl
      by (inr (never, is)) = double_missed file g n t (never t) ∙ sym (ne_eqb t (double_of file g n) (λ z. omega arith))

  pub double_some : (property_of g.claim).doubles ≡ true → (n : ℕ) → (property_of g.claim).from ≤ n → n < g.nodes → double_of file g n < g.transitions
  double_some d n k l = by (double_found file g n)
    where
      by : Found file g n → double_of file g n < g.transitions
      by (inl (e, h)) = rw h.carried at ((promised file g r).edge e h.there).transition
      by (inr (never, is)) =
          let x = (promised file g r).doubled d n k l in
          absurd
          (never x.transition x.edge
          (record { there = x.edge_there; from = x.edge_from; carried = x.edge_carries; double = x.edge_double }))

  pub double_none : (property_of g.claim).doubles ≡ false → (n : ℕ) → double_of file g n ≡ g.transitions
  double_none d n = by (double_found file g n)
    where
      by : Found file g n → double_of file g n ≡ g.transitions
      by (inl (e, h)) = absurd (false≢true (sym d ∙ ((promised file g r).edge e h.there).may_double h.double))
      by (inr (never, is)) = is

  pub double_most : (n : ℕ) → double_of file g n ≤ g.transitions
  double_most n = by (double_found file g n)
    where
      by : Found file g n → double_of file g n ≤ g.transitions
      by (inl (e, h)) = omega (arith, rw h.carried at ((promised file g r).edge e h.there).transition)
      by (inr (never, is)) = omega (arith, is)
