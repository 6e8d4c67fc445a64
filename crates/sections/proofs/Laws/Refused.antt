-- What refuses a section that begins within the file: it has a number of 3 or more, and its place is a record of the file or the record count.
--     refused_variables, refused_transitions, refused_nodes, refused_edges     of each section
-- Assumes nothing.
use mathlib.Core.Path.{◌≡◌, refl, subst, ◌∙◌}
use mathlib.Core.Bool.{Bool, true, false, cond}
use mathlib.Core.List.{List}
use Prim.Native.Nat.{ℕ, zero, suc, ◌+◌, ◌-◌, ◌/◌, ◌<◌, ◌≤◌}
use native.Mathlib.Omega.{arith}
use lib.ListN.{length, get_or, set, replicate}
use lib.Dec.{eqb}
use Rattle.std.specs.declared.result.Result.TheVariants.{Ok, Err}
use Rattle.std.specs.declared.result.Result.{Result}
use Rattle.shapes.specs.declared.Refusal.{Refusal}
use Rattle.shapes.specs.Refusal.{refused_number, refused_place, and_then}
use Rattle.sections.specs.declared.Section.{Section}
use Rattle.records.specs.Record.{field_a, kind_is}
use Rattle.records.specs.declared.kinds.Sort.{Sort}
use Rattle.records.specs.Kind.{number, truth}
use Rattle.records.specs.Walk.{Walked, in_sequence, walk_of, truth_of}
use Rattle.sections.specs.Section.{items, no_fields, variable_fields, transition_fields, edge_fields, items_of, variables_of}
use Rattle.sections.specs.Section.{is_update, update_fields, update_of, updates_of, transition_of, transitions_of, node_of, nodes_of, repeated_of, edge_of, edges_of}
use Rattle.records.proofs.Laws.Record.{kind_is_lem}
use Rattle.records.proofs.Laws.Walk.{walk_bound}
use Rattle.records.proofs.Laws.Refused.{refused_then, refused_sequence, refused_walk}
use Rattle.sections.proofs.Laws.Section.{pick_one, assignment_ends, update_here, update_bound, transition_bound, node_bound, edge_opens}
use Rattle.truths.proofs.Laws.Truth.{by-test}

module _ (file : List ℕ) (refusal : Refusal) where
  abbrev records : ℕ
  records = length file / 8

  abbrev Right : Type 0
  Right = (3 ≤ refused_number refusal) × (refused_place refusal ≤ records)

  -- a refusal of the record at `at` itself
  of_record : {A : Type 0} {at : ℕ} → at ≤ records → (q : Refusal) → 3 ≤ refused_number q → refused_place q ≡ at → ◌≡◌ {A = Result A Refusal} (Err q) (Err refusal) → Right
  of_record l q n p e =
      let z : q ≡ refusal = cc in
      subst (λ (r : Refusal). (3 ≤ refused_number r) × (refused_place r ≤ records)) z (n, omega arith)

  -- ---- transitions
  module _ (vars : ℕ) where
    refused_over : (at : ℕ) → at ≤ records → (k f : Bool) → cond k (cond f (Err (Refusal.Repetition at)) (Err (Refusal.Field at))) (Ok at) ≡ Err refusal → Right
    refused_over at l true true e = of_record l (Refusal.Repetition at) (omega arith) refl e
    refused_over at l true false e = of_record l (Refusal.Field at) (omega arith) refl e
    refused_over at l false f e = let z : ◌≡◌ {A = ℕ} 0 1 = cc in absurd (omega arith)

    refused_value : (at : ℕ) → is_update file at ≡ true → update_of file vars at ≡ Err refusal → Right
    refused_value at u e =
        let here = update_here file at u in
        by-test (kind_is file 0x08 at) (λ b. Right)
        (λ k. let z : ◌≡◌ {A = ℕ} 0 1 = (let y = pick_one file vars at k in cc) in absurd (omega arith))
        (λ k. refused_walk file vars refusal 16 number (at + 1) (omega arith) (assignment_ends file vars at k e))

    refused_update : (at : ℕ) (next : ℕ → Walked) → at ≤ records → ((x : ℕ) → x ≤ records → next x ≡ Err refusal → Right)
        → (k f d : Bool) (w : Walked) → is_update file at ≡ k → update_of file vars at ≡ w
        → cond k (cond f (cond d (and_then w next) (Err (Refusal.Repetition at))) (Err (Refusal.Field at))) (Ok at) ≡ Err refusal → Right
    refused_update at next l h true true true (Ok x) k w e = h x (update_bound file vars at k x w).1 e
    refused_update at next l h true true true (Err q) k w e = refused_value at k (w ∙ e)
    refused_update at next l h true true false w k is e = of_record l (Refusal.Repetition at) (omega arith) refl e
    refused_update at next l h true false d w k is e = of_record l (Refusal.Field at) (omega arith) refl e
    refused_update at next l h false f d w k is e = let z : ◌≡◌ {A = ℕ} 0 1 = cc in absurd (omega arith)

    refused_updates : (left : ℕ) (marks : List ℕ) (at : ℕ) → at ≤ records → updates_of file vars left marks at ≡ Err refusal → Right
    unfolding updates_of
    refused_updates zero marks at l e = refused_over at l (is_update file at) (update_fields file vars at) e
    refused_updates (suc left) marks at l e =
        let a = field_a file at in
        refused_update at (updates_of file vars left (set marks a 1)) l (refused_updates left (set marks a 1))
        (is_update file at) (update_fields file vars at) (eqb (get_or marks a 0) 0) (update_of file vars at) refl refl e

    walk_ends : (sort : Sort) (at end : ℕ) → walk_of file vars 16 sort at ≡ Ok end → end ≤ records
    walk_ends sort at end e = (walk_bound file vars 16 sort at end e).1

    refused_transition : (at : ℕ) → at < records → transition_of file vars at ≡ Err refusal → Right
    unfolding transition_of
    refused_transition at l =
        refused_then (truth_of file vars) records refusal Right (walk_ends truth) (refused_walk file vars refusal 16 truth)
        (updates_of file vars 12 (replicate 12 0)) (at + 1) (omega arith) (refused_updates 12 (replicate 12 0))

    -- ---- nodes
    refused_node : (ranks at : ℕ) → at < records → node_of file vars ranks at ≡ Err refusal → Right
    refused_node ranks at l =
        refused_then (truth_of file vars) records refusal Right (walk_ends truth) (refused_walk file vars refusal 16 truth)
        (in_sequence (walk_of file vars 16 number) ranks) (at + 1) (omega arith)
        (refused_sequence (walk_of file vars 16 number) records refusal Right (walk_ends number) (refused_walk file vars refusal 16 number) ranks)

  -- ---- edges
  refused_edge : (first at : ℕ) → at < records → edge_of file first at ≡ Err refusal → Right
  refused_edge first at l = repeats (repeated_of file at first (at - first))
    where
      repeats : (b : Bool) → cond b (Err (Refusal.Repetition at)) (Ok (at + 1)) ≡ Err refusal → Right
      repeats true e = of_record (omega arith) (Refusal.Repetition at) (omega arith) refl e
      repeats false e = let z : ◌≡◌ {A = ℕ} 0 1 = cc in absurd (omega arith)

  -- ---- a section of items that each end within the file
  module _ (kind : ℕ) (fields : ℕ → Bool) (item : ℕ → Walked) (refused : (i : ℕ) → i < records → item i ≡ Err refusal → Right)
      (ends : (i e : ℕ) → i < records → item i ≡ Ok e → e ≤ records) where
    refused_last : (m at : ℕ) → at ≤ records → (k f : Bool)
        → cond k (cond f (Err (Refusal.Limit at)) (Err (Refusal.Field at))) (Ok (items m at)) ≡ Err refusal → Right
    refused_last m at l true true e = of_record l (Refusal.Limit at) (omega arith) refl e
    refused_last m at l true false e = of_record l (Refusal.Field at) (omega arith) refl e
    refused_last m at l false f e = let z : ◌≡◌ {A = ℕ} 0 1 = cc in absurd (omega arith)

    refused_item : (m at : ℕ) (next : ℕ → Result Section Refusal) → at ≤ records → ((x : ℕ) → x ≤ records → next x ≡ Err refusal → Right)
        → (k f : Bool) (w : Walked) → kind_is file kind at ≡ k → item at ≡ w
        → cond k (cond f (and_then w next) (Err (Refusal.Field at))) (Ok (items m at)) ≡ Err refusal → Right
    refused_item m at next l h true true (Ok x) k w e = h x (ends at x (kind_is_lem file kind at k).0 w) e
    refused_item m at next l h true true (Err r) k w e =
        let z : r ≡ refusal = cc in
        refused at (kind_is_lem file kind at k).0 (rw z at w)
    refused_item m at next l h true false w k is e = of_record l (Refusal.Field at) (omega arith) refl e
    refused_item m at next l h false f w k is e = let z : ◌≡◌ {A = ℕ} 0 1 = cc in absurd (omega arith)

    refused_items : (left m at : ℕ) → at ≤ records → items_of file kind fields item left m at ≡ Err refusal → Right
    unfolding items_of
    refused_items zero m at l e = refused_last m at l (kind_is file kind at) (fields at) e
    refused_items (suc left) m at l e =
        refused_item m at (items_of file kind fields item left (m + 1)) l (refused_items left (m + 1)) (kind_is file kind at) (fields at) (item at) refl refl e

  pub refused_variables : variables_of file ≡ Err refusal → Right
  unfolding variables_of
  refused_variables =
      refused_items 0x01 (variable_fields file) (λ at. Ok (at + 1)) (λ i l e. let z : ◌≡◌ {A = ℕ} 0 1 = cc in absurd (omega arith))
      (λ i e l q. let z : i + 1 ≡ e = cc in omega arith) 12 0 0 (omega arith)

  pub refused_transitions : (vars at : ℕ) → at ≤ records → transitions_of file vars at ≡ Err refusal → Right
  unfolding transitions_of
  refused_transitions vars at =
      refused_items 0x03 (transition_fields file) (transition_of file vars) (refused_transition vars) (λ i e l q. (transition_bound file vars e i q).1) 32 0 at

  pub refused_nodes : (vars ranks most at : ℕ) → at ≤ records → nodes_of file vars ranks most at ≡ Err refusal → Right
  unfolding nodes_of
  refused_nodes vars ranks most at =
      refused_items 0x06 (no_fields file) (node_of file vars ranks) (refused_node vars ranks)
      (λ i e l q. (node_bound file vars ranks i e q).1) most 0 at

  pub refused_edges : (transitions nodes first : ℕ) → first ≤ records → edges_of file transitions nodes first ≡ Err refusal → Right
  unfolding edges_of
  refused_edges transitions nodes first =
      refused_items 0x07 (edge_fields file transitions nodes) (edge_of file first) (refused_edge first)
      (λ i e l q. let z = (edge_opens file first i e q).1 in omega arith) 512 0 first
