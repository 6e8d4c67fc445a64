-- What is known of a file that parses: each section with its count and its end. The stages are taken apart from the first to the last, each handing
-- what it found to the next.
--     parses         the sections, from the outline answered (C1.5)
--     walk_opens     a walk, and what follows it to an outline
--     same           an outline that is found is one
-- Assumes nothing.
use mathlib.Core.Path.{◌≡◌, refl, ap, subst, ◌∙◌}
use mathlib.Core.Bool.{Bool, true, false, cond, ◌&&◌, and-eq-true_iff}
use mathlib.Core.List.{List}
use Prim.Native.Nat.{ℕ, ◌+◌, ◌/◌, ◌%◌, ◌≤◌}
use native.Mathlib.Omega.{arith}
use borrow.Author.Tests.{leb-true, eqb-true}
use lib.ListN.{length}
use lib.Dec.{leb, eqb}
use Rattle.std.specs.declared.result.Result.TheVariants.{Ok, Err}
use Rattle.shapes.specs.declared.Refusal.{Refusal}
use Rattle.shapes.specs.Refusal.{and_then}
use Rattle.shapes.specs.declared.Outline.{Outline}
use Rattle.records.specs.Walk.{Walked, in_sequence, truth_of}
use Rattle.records.specs.Record.{kind_is}
use Rattle.sections.specs.Section.{items, no_fields, property_at, property_fields, variables_of, transitions_of, expressions_of, phases_or, nodes_of, edges_of}
use Rattle.sections.proofs.Laws.Counted.{variables_end}
use Rattle.records.proofs.Laws.Walk.{First, then_ends}
use Rattle.parsing.specs.Outline.{Reading, nodes_parsed, property_parsed, transitions_parsed, start_parsed, parsed_of}

pub record Parses (file : List ℕ) (o : Outline) : Type 0 where
  pub whole : length file % 8 ≡ 0
  pub small : length file ≤ 32768
  pub variables : variables_of file ≡ Ok (items o.vars o.vars)
  pub some : 1 ≤ o.vars
  pub start_named : kind_is file 0x02 o.vars ≡ true
  pub start : truth_of file o.vars (o.vars + 1) ≡ Ok o.transition
  pub transitions : transitions_of file o.vars o.transition ≡ Ok (items o.transitions o.property)
  pub property_named : kind_is file 0x05 o.property ≡ true
  pub property_right : property_fields file o.property ≡ true
  pub truths : in_sequence (truth_of file o.vars) (expressions_of file o.property) (o.property + 1) ≡ Ok o.node
  pub nodes : nodes_of file o.vars (property_at file o.property).ranks (phases_or file o.property 32) o.node ≡ Ok (items o.nodes o.edge)
  pub enough : phases_or file o.property 1 ≤ o.nodes
  pub edges : edges_of file o.transitions o.nodes o.edge ≡ Ok (items o.edges (length file / 8))

-- ---- what was parsed to an outline passed each test and each part on the way
passed : (b : Bool) (refusal : Refusal) {p : Reading} {o : Outline} → cond b p (Err refusal) ≡ Ok o → (b ≡ true) × (p ≡ Ok o)
passed true refusal e = (refl, e)
passed false refusal e = let z : ◌≡◌ {A = ℕ} 0 1 = cc in absurd (omega arith)

pub walk_opens : (w : Walked) {next : ℕ → Reading} {o : Outline} → and_then w next ≡ Ok o → First w next (Ok o)
walk_opens w = then_ends w

pub same : (o p : Outline) → ◌≡◌ {A = Reading} (Ok p) (Ok o) → p ≡ o
same o p e = cc

-- ---- the stages, each with what the ones before it found
module _ (file : List ℕ) (o : Outline) (whole : length file % 8 ≡ 0) (small : length file ≤ 32768) where
  module _ (vars : ℕ) (variables : variables_of file ≡ Ok (items vars vars)) where
    module _ (transition : ℕ) (some : 1 ≤ vars) (start_named : kind_is file 0x02 vars ≡ true) (start : truth_of file vars (vars + 1) ≡ Ok transition) where
      module _ (transitions property : ℕ) (named : transitions_of file vars transition ≡ Ok (items transitions property)) where
        module _ (node : ℕ) (property_named : kind_is file 0x05 property ≡ true) (property_right : property_fields file property ≡ true)
            (truths : in_sequence (truth_of file vars) (expressions_of file property) (property + 1) ≡ Ok node) where
          module _ (nodes edge : ℕ) (there : nodes_of file vars (property_at file property).ranks (phases_or file property 32) node ≡ Ok (items nodes edge))
              (enough : phases_or file property 1 ≤ nodes) where
            -- the outline with so many edges
            abbrev to : ℕ → Outline
            to edges =
                record {
                  vars = vars;
                  transition = transition;
                  transitions = transitions;
                  property = property;
                  node = node;
                  nodes = nodes;
                  edge = edge;
                  edges = edges;
                }

            abbrev edges_on : Reading
            edges_on =
                and_then (edges_of file transitions nodes edge) λ edges.
                cond (eqb edges.end (length file / 8)) (Ok (to edges.count)) (Err (Refusal.Kind edges.end))

            edges_from : edges_on ≡ Ok o → Parses file o
            edges_from e =
                let s = then_ends (edges_of file transitions nodes edge) e in
                let p = passed (eqb s.mid.end (length file / 8)) _ s.rest in
                subst (Parses file) (same o _ p.1)
                (record {
                  whole = whole;
                  small = small;
                  variables = variables;
                  some = some;
                  start_named = start_named;
                  start = start;
                  transitions = named;
                  property_named = property_named;
                  property_right = property_right;
                  truths = truths;
                  nodes = there;
                  enough = enough;
                  edges = s.first ∙ ap (λ (i : ℕ). Ok (items s.mid.count i)) (eqb-true _ _ p.0);
                })

          nodes_from : nodes_parsed file vars transition transitions property node ≡ Ok o → Parses file o
          unfolding nodes_parsed
          nodes_from e =
              let s = then_ends (nodes_of file vars (property_at file property).ranks (phases_or file property 32) node) e in
              let p = passed (leb (phases_or file property 1) s.mid.count) _ s.rest in
              edges_from s.mid.count s.mid.end s.first (leb-true _ _ p.0) p.1

        property_from : property_parsed file vars transition transitions property ≡ Ok o → Parses file o
        unfolding property_parsed
        property_from e =
            let p = passed (kind_is file 0x05 property) _ e in
            let q = passed (property_fields file property) _ p.1 in
            let w = then_ends (in_sequence (truth_of file vars) (expressions_of file property) (property + 1)) q.1 in
            nodes_from w.mid p.0 q.0 w.first w.rest

      transitions_from : transitions_parsed file vars transition ≡ Ok o → Parses file o
      unfolding transitions_parsed
      transitions_from e =
          let s = then_ends (transitions_of file vars transition) e in
          property_from s.mid.count s.mid.end s.first s.rest

    start_from : start_parsed file vars vars ≡ Ok o → Parses file o
    unfolding start_parsed
    start_from e =
        let p = passed (leb 1 vars && kind_is file 0x02 vars) _ e in
        let k = (and-eq-true_iff (leb 1 vars) (kind_is file 0x02 vars)).0 p.0 in
        let w = then_ends (truth_of file vars (vars + 1)) (passed (no_fields file vars) _ p.1).1 in
        transitions_from w.mid (leb-true _ _ k.0) k.1 w.first w.rest

pub parses : (file : List ℕ) (o : Outline) → parsed_of file ≡ Ok o → Parses file o
unfolding parsed_of
parses file o e =
    let p = passed (eqb (length file % 8) 0 && leb (length file) 32768) _ e in
    let l = (and-eq-true_iff (eqb (length file % 8) 0) (leb (length file) 32768)).0 p.0 in
    let s = then_ends (variables_of file) p.1 in
    let vars = s.mid.count in
    let ends = variables_end file vars s.mid.end s.first in
    start_from file o (eqb-true _ _ l.0) (leb-true _ _ l.1) vars (s.first ∙ ap (λ (i : ℕ). Ok (items vars i)) ends)
    (subst (λ (i : ℕ). start_parsed file vars i ≡ Ok o) ends s.rest)
