-- A refusal of parsing has a number of 2 or more, and its place is a record of the file or the record count, so at most 4,096.
--     refused, walked_ends, test_refuses, refuses_more     answers of any type, by how they are made
--     walk_then                                            what follows a part
--     parse_refuses                                        the whole file
-- Each definition of parsing is gone through as it stands: a test has two sides, and what follows a part keeps the part's refusal.
-- Assumes nothing.
use mathlib.Core.Path.{◌≡◌, refl, ap, subst}
use mathlib.Core.Bool.{Bool, true, false, cond, ◌&&◌, and-eq-true_iff}
use mathlib.Core.List.{List}
use Prim.Native.Nat.{ℕ, ◌+◌, ◌/◌, ◌%◌, ◌≤◌}
use native.Mathlib.Omega.{arith}
use borrow.Author.Tests.{leb-true}
use lib.ListN.{length}
use lib.Dec.{leb, eqb}
use Rattle.std.specs.declared.result.Result.TheVariants.{Ok, Err}
use Rattle.std.specs.declared.result.Result.{Result}
use Rattle.shapes.specs.declared.Refusal.{Refusal}
use Rattle.shapes.specs.Refusal.{refused_number, refused_place, and_then}
use Rattle.records.specs.Record.{kind_is}
use Rattle.records.specs.Kind.{truth}
use Rattle.records.specs.Walk.{in_sequence, truth_of}
use Rattle.sections.specs.Section.{no_fields, property_at, property_fields, variables_of, transitions_of, expressions_of, phases_or, nodes_of, edges_of}
use Rattle.parsing.specs.Outline.{Reading, nodes_parsed, property_parsed, transitions_parsed, start_parsed, parsed_of}
use Rattle.parsing.specs.Refusal.{Refused, Refuses}
use Rattle.records.proofs.Laws.Record.{kind_is_lem}
use Rattle.records.proofs.Laws.Walk.{walk_bound}
use Rattle.records.proofs.Laws.Refused.{refused_sequence, refused_walk}
use Rattle.sections.proofs.Laws.Section.{transition_bound, node_bound, sequence_through}
use Rattle.sections.proofs.Laws.Counted.{variables_through, transitions_through, nodes_through, edges_through}
use Rattle.sections.proofs.Laws.Refused.{refused_variables, refused_transitions, refused_nodes, refused_edges}

-- ---- answers of any type
-- a wider bound of the place
pub refuses_more : {A : Type 0} {few most : ℕ} {x : Result A Refusal} → few ≤ most → Refuses few x → Refuses most x
refuses_more l h refusal e = let r = h refusal e in record { from = r.from; within = omega arith }

module _ {A : Type 0} {most : ℕ} where
  pub refused : (refusal : Refusal) → 2 ≤ refused_number refusal → refused_place refusal ≤ most → Refuses {A = A} most (Err refusal)
  refused refusal from within r e = let z : refusal ≡ r = cc in subst (Refused most) z (record { from = from; within = within })

  pub walked_ends : {end : A} → Refuses most (Ok end)
  walked_ends refusal e = let z : ◌≡◌ {A = ℕ} 0 1 = cc in absurd (omega arith)

  pub test_refuses : (b : Bool) {x y : Result A Refusal} → (b ≡ true → Refuses most x) → (b ≡ false → Refuses most y) → Refuses most (cond b x y)
  test_refuses true h k = h refl
  test_refuses false h k = k refl

-- what follows a part of the file keeps the part's refusal
pub walk_then : {A B : Type 0} {most : ℕ} (found : Result A Refusal) {next : A → Result B Refusal} → Refuses most found
    → ((x : A) → found ≡ Ok x → Refuses most (next x)) → Refuses most (and_then found next)
walk_then (Ok x) h k = k x refl
walk_then (Err r) h k = λ refusal e. let z : r ≡ refusal = cc in h refusal (ap (λ (q : Refusal). Err q) z)

-- ---- the whole file
module _ (file : List ℕ) where
  abbrev count : ℕ
  count = length file / 8

  abbrev Right : Reading → Type 0
  Right = Refuses count

  -- what is known of the refusals of a walk or a section
  right : {A : Type 0} {x : Result A Refusal} → ((r : Refusal) → x ≡ Err r → (3 ≤ refused_number r) × (refused_place r ≤ count)) → Refuses count x
  right h r e = let q = h r e in record { from = omega arith; within = q.1 }

  past : (kind i : ℕ) → kind_is file kind i ≡ true → i ≤ count → i + 1 ≤ count
  past kind i k l = let z = (kind_is_lem file kind i k).0 in omega arith

  walk_ends : (vars at end : ℕ) → truth_of file vars at ≡ Ok end → end ≤ count
  walk_ends vars at end e = (walk_bound file vars 16 truth at end e).1

  nodes_refuses : (vars transition transitions property at : ℕ) → at ≤ count → Right (nodes_parsed file vars transition transitions property at)
  unfolding nodes_parsed
  nodes_refuses vars transition transitions property at l =
      let ranks = (property_at file property).ranks in
      let most = phases_or file property 32 in
      walk_then (nodes_of file vars ranks most at) (right (λ r. refused_nodes file r vars ranks most at l))
      (λ nodes e.
      let m = nodes_through _ _ _ _ _ _ _ e (λ i. i ≤ count) (λ i y k q a. (node_bound file vars ranks i y q).1) l in
      test_refuses (leb (phases_or file property 1) nodes.count)
      (λ t.
      walk_then (edges_of file transitions nodes.count nodes.end) (right (λ r. refused_edges file r transitions nodes.count nodes.end m))
      (λ edges q.
      test_refuses (eqb edges.end count) (λ u. walked_ends)
      (λ u. refused (Refusal.Kind edges.end) (omega arith) (edges_through _ _ _ _ _ _ q (λ i. i ≤ count) (past 0x07) m))))
      (λ t. refused (Refusal.Kind nodes.end) (omega arith) m))

  property_refuses : (vars transition transitions at : ℕ) → at ≤ count → Right (property_parsed file vars transition transitions at)
  unfolding property_parsed
  property_refuses vars transition transitions at l =
      let n = expressions_of file at in
      test_refuses (kind_is file 0x05 at)
      (λ k.
      let m = past 0x05 at k l in
      test_refuses (property_fields file at)
      (λ f.
      walk_then (in_sequence (truth_of file vars) n (at + 1))
      (right (λ r. refused_sequence (truth_of file vars) count r _ (walk_ends vars) (refused_walk file vars r 16 truth) n (at + 1) m))
      (λ x e.
      nodes_refuses vars transition transitions at x
      (sequence_through (truth_of file vars) (λ i. i ≤ count) (λ i y q p. walk_ends vars i y q) x n (at + 1) e m)))
      (λ f. refused (Refusal.Field at) (omega arith) l))
      (λ k. refused (Refusal.Kind at) (omega arith) l)

  transitions_refuses : (vars at : ℕ) → at ≤ count → Right (transitions_parsed file vars at)
  unfolding transitions_parsed
  transitions_refuses vars at l =
      walk_then (transitions_of file vars at) (right (λ r. refused_transitions file r vars at l))
      (λ section e.
      property_refuses vars at section.count section.end
      (transitions_through _ _ _ _ _ e (λ i. i ≤ count) (λ i y k q a. (transition_bound file vars y i q).1) l))

  start_refuses : (vars at : ℕ) → at ≤ count → Right (start_parsed file vars at)
  unfolding start_parsed
  start_refuses vars at l =
      test_refuses (leb 1 vars && kind_is file 0x02 at)
      (λ k.
      test_refuses (no_fields file at)
      (λ f.
      let m = past 0x02 at ((and-eq-true_iff (leb 1 vars) (kind_is file 0x02 at)).0 k).1 l in
      walk_then (truth_of file vars (at + 1)) (right (λ r. refused_walk file vars r 16 truth (at + 1) m))
      (λ x e. transitions_refuses vars x (walk_ends vars (at + 1) x e)))
      (λ f. refused (Refusal.Field at) (omega arith) l))
      (λ k. refused (Refusal.Kind at) (omega arith) l)

  pub parse_refuses : Refuses 4096 (parsed_of file)
  unfolding parsed_of
  parse_refuses =
      let whole = eqb (length file % 8) 0 in
      test_refuses (whole && leb (length file) 32768)
      (λ t.
      let small : length file ≤ 32768 = leb-true _ _ ((and-eq-true_iff whole (leb (length file) 32768)).0 t).1 in
      refuses_more (omega arith)
      (walk_then (variables_of file) (right (λ r. refused_variables file r))
      (λ section e. start_refuses section.count section.end (variables_through _ _ _ e (λ i. i ≤ count) (past 0x01) (omega arith)))))
      (λ t. refused Refusal.Length (omega arith) (omega arith))
