-- The edges of a readable file.
--     edge_names         each names a transition and nodes that exist
--     edge_leads         it leads from a node that it may, and not up unless it may (C9.2, C9.3)
--     edge_single        it is single where edges may not be double (C9.1, C9.4)
--     edge_double        a double one leads down, unless edges may rise, and its transition is just (C9.5, C9.6)
--     double_transition  where edges may be double, each node that they may lead from has exactly one double transition, and it is just (C9.7 to C9.9)
-- Assumes nothing.
use mathlib.Core.Path.{◌≡◌, refl, sym, ◌∙◌}
use mathlib.Core.Bool.{Bool, true, false, cond, not, ◌&&◌, ◌||◌, beq, and-eq-true_iff, false≢true}
use mathlib.Core.List.{List}
use Prim.Native.Nat.{ℕ, ◌+◌, ◌-◌, ◌<◌, ◌≤◌}
use native.Mathlib.Omega.{arith}
use borrow.Author.Tests.{eq-eqb, eqb-true, eqb-false, ltb-true, ltb-false, leb-true, not-true}
use lib.Dec.{ltb, leb, eqb}
use Rattle.shapes.specs.declared.Property.{Property}
use Rattle.shapes.specs.declared.Edge.{Edge}
use Rattle.shapes.specs.declared.Outline.{Outline}
use Rattle.shapes.specs.declared.Refusal.{Refusal}
use Rattle.shapes.specs.Edge.{double_from}
use Rattle.shapes.proofs.Laws.Edge.{double_from_lem}
use Rattle.sections.specs.Section.{property_at, edge_at}
use Rattle.parsing.proofs.Laws.Parsed as parsed
use Rattle.truths.specs.Search.{any}
use Rattle.records.proofs.Laws.Refuse.{refuse_all}
use Rattle.truths.proofs.Laws.Any.{any_false, any_some}
use Rattle.truths.proofs.Laws.Truth.{or_other}
use Rattle.reading.specs.Edge.{just_of, conflict_of, leads_of, falls_of, double_rule_of, rule_of, rules_of, doubled_of, doubles_of}
use Rattle.reading.specs.Readable.{edge_of, EdgeNamed, DoubleTransition}
use Rattle.reading.proofs.Laws.Stage.{Stages}

-- ---- one rule, by its parts
leads_parts : (p : Property) (e : Edge) → leads_of p e ≡ true → (p.from ≤ e.from) × (p.rising ≡ false → e.to ≤ e.from)
unfolding leads_of
leads_parts p e l =
    let b = leb p.from e.from in
    let q = (and-eq-true_iff b (p.rising || leb e.to e.from)).0 l in
    (leb-true _ _ q.0, λ n. leb-true _ _ (or_other p.rising (leb e.to e.from) q.1 n))

falls_down : (p : Property) (e : Edge) → falls_of p e ≡ true → p.rising ≡ false → e.to < e.from
unfolding falls_of
falls_down p e f n = ltb-true _ _ (or_other p.rising (ltb e.to e.from) f n)

-- two edges from one node that don't conflict: of one transition both are single or both double, of two not both are double
abbrev Agree : Edge → Edge → Type 0
Agree a b = (a.transition ≡ b.transition → a.double ≡ b.double) × (a.double ≡ true → b.double ≡ true → a.transition ≡ b.transition)

beq_same : (p q : Bool) → not (beq p q) ≡ false → p ≡ q
beq_same true true e = refl
beq_same true false e = absurd (false≢true (sym e))
beq_same false true e = absurd (false≢true (sym e))
beq_same false false e = refl

agree_by : (a b : Edge) (t : Bool) → eqb a.transition b.transition ≡ t
    → cond t (not (beq a.double b.double)) (a.double && b.double) ≡ false → Agree a b
agree_by a b true is q = (λ e. beq_same _ _ q, λ d e. eqb-true _ _ is)
agree_by a b false is q =
    (λ e. absurd (eqb-false _ _ is e), λ d e. absurd (false≢true (sym q ∙ (and-eq-true_iff a.double b.double).1 (d, e))))

agree_both : (a b : Edge) → a.from ≡ b.from → conflict_of a b ≡ false → Agree a b
unfolding conflict_of
agree_both a b f c = agree_by a b (eqb a.transition b.transition) refl (rw (eq-eqb a.from b.from f) at c)

module _ (file : List ℕ) (o : Outline) (r : Stages file o) where
  -- ---- what an edge names
  pub edge_names : (e : ℕ) → e < o.edges → EdgeNamed file o e
  edge_names e l =
      let p = parsed.edge_names file o r.parsed e l in
      record { transition = p.0; from = p.1; to = p.2 }

  -- ---- the rule that it obeys
  edge_obeys : (e : ℕ) → e < o.edges
      → (leads_of (property_at file o.property) (edge_of file o e) ≡ true)
      × (cond (property_at file o.property).doubles (double_rule_of file o (o.edge + e)) (not (edge_of file o e).double) ≡ true)
  unfolding rules_of rule_of
  edge_obeys e l =
      (and-eq-true_iff (leads_of (property_at file o.property) (edge_of file o e))
      (cond (property_at file o.property).doubles (double_rule_of file o (o.edge + e)) (not (edge_of file o e).double))).0
      (refuse_all Refusal.Edge (rule_of file o) r.rules.end o.edges o.edge r.rules.is e l)

  pub edge_leads : (e : ℕ) → e < o.edges
      → ((property_at file o.property).from ≤ (edge_of file o e).from)
      × ((property_at file o.property).rising ≡ false → (edge_of file o e).to ≤ (edge_of file o e).from)
  edge_leads e l = leads_parts (property_at file o.property) (edge_of file o e) (edge_obeys e l).0

  pub edge_single : (property_at file o.property).doubles ≡ false → (e : ℕ) → e < o.edges → (edge_of file o e).double ≡ false
  edge_single n e l = not-true _ (rw n at (edge_obeys e l).1)

  module _ (may : (property_at file o.property).doubles ≡ true) where
    double_ruled : (e : ℕ) → e < o.edges → double_rule_of file o (o.edge + e) ≡ true
    double_ruled e l = rw may at (edge_obeys e l).1

    double_rule_lem : (e : ℕ) → e < o.edges
        → (any (λ i. conflict_of (edge_at file i) (edge_of file o e)) (o.edge + e - o.edge) o.edge ≡ false)
        × ((not (edge_of file o e).double || (falls_of (property_at file o.property) (edge_of file o e) && just_of file o (edge_of file o e).transition)) ≡ true)
    unfolding double_rule_of
    double_rule_lem e l =
        let x = edge_of file o e in
        let q = (and-eq-true_iff (not (any (λ i. conflict_of (edge_at file i) x) (o.edge + e - o.edge) o.edge))
        (not x.double || (falls_of (property_at file o.property) x && just_of file o x.transition))).0 (double_ruled e l) in
        (not-true _ q.0, q.1)

    -- a double edge falls, and its transition is just
    double_obeys : (e : ℕ) → e < o.edges → (edge_of file o e).double ≡ true
        → (falls_of (property_at file o.property) (edge_of file o e) ≡ true) × (just_of file o (edge_of file o e).transition ≡ true)
    double_obeys e l d =
        let x = edge_of file o e in
        let both = falls_of (property_at file o.property) x && just_of file o x.transition in
        (and-eq-true_iff (falls_of (property_at file o.property) x) (just_of file o x.transition)).0
        (or_other (not x.double) both (double_rule_lem e l).1 (rw d))

    agree_later : (i j : ℕ) → i < j → j < o.edges → (edge_of file o i).from ≡ (edge_of file o j).from → Agree (edge_of file o i) (edge_of file o j)
    agree_later i j l m f =
        agree_both (edge_of file o i) (edge_of file o j) f
        (any_false (λ k. conflict_of (edge_at file k) (edge_of file o j)) (o.edge + j - o.edge) o.edge (double_rule_lem j m).0 i (omega arith))

    -- two edges from one node, in any order
    agree : (i j : ℕ) → i < o.edges → j < o.edges → (edge_of file o i).from ≡ (edge_of file o j).from → Agree (edge_of file o i) (edge_of file o j)
    agree i j l m f = by_order (ltb i j) (ltb j i) refl refl
      where
        by_order : (p q : Bool) → ltb i j ≡ p → ltb j i ≡ q → Agree (edge_of file o i) (edge_of file o j)
        by_order true q is it = agree_later i j (ltb-true _ _ is) m f
        by_order false true is it = let g = agree_later j i (ltb-true _ _ it) l (sym f) in (λ a. sym (g.0 (sym a)), λ d e. sym (g.1 e d))
        by_order false false is it =
            let z : i ≡ j = let x = ltb-false i j is in let y = ltb-false j i it in omega arith in
            (λ a. rw z, λ d e. rw z)

    node_doubled : (n : ℕ) → (property_at file o.property).from ≤ n → n < o.nodes → doubled_of file o n ≡ true
    unfolding doubles_of
    node_doubled n k l =
        let from = (property_at file o.property).from in
        let z : from + (n - from) ≡ n = omega arith in
        rw z at (refuse_all Refusal.NoWayDown (doubled_of file o) r.doubles.end (o.nodes - from) from (rw may at r.doubles.is) (n - from) (omega arith))

    -- a node has a double edge; no other transition has one from it, and that one no single edge
    pub double_transition : (n : ℕ) → (property_at file o.property).from ≤ n → n < o.nodes → DoubleTransition file o n
    unfolding doubled_of
    double_transition n k l =
        let s = any_some (λ i. double_from n (edge_at file i)) o.edges o.edge (node_doubled n k l) in
        let x = edge_of file o s.which in
        let p = double_from_lem x s.passes in
        record {
          transition = x.transition;
          there = (edge_names s.which s.below).transition;
          just = (double_obeys s.which s.below p.0).1;
          edge = s.which;
          edge_there = s.below;
          edge_from = p.1;
          edge_double = p.0;
          edge_carries = refl;
          only = λ e m f g. (agree e s.which m s.below (f ∙ sym p.1)).1 g p.0;
          never_single = λ e m f g. (agree e s.which m s.below (f ∙ sym p.1)).0 g ∙ p.0;
        }

  -- a double edge
  pub edge_double : (e : ℕ) → e < o.edges → (edge_of file o e).double ≡ true
      → ((property_at file o.property).doubles ≡ true) × ((property_at file o.property).rising ≡ false → (edge_of file o e).to < (edge_of file o e).from)
      × (just_of file o (edge_of file o e).transition ≡ true)
  edge_double e l d = by (property_at file o.property).doubles refl
    where
      by : (b : Bool) → (property_at file o.property).doubles ≡ b
          → ((property_at file o.property).doubles ≡ true) × ((property_at file o.property).rising ≡ false → (edge_of file o e).to < (edge_of file o e).from)
          × (just_of file o (edge_of file o e).transition ≡ true)
      by true is = let p = double_obeys is e l d in (is, falls_down (property_at file o.property) (edge_of file o e) p.0, p.1)
      by false is = absurd (false≢true (sym (edge_single is e l) ∙ d))
