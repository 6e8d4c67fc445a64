-- Laws of an edge's record, and of the edges counted.
--     edge_named     an edge whose fields are right names a transition and nodes that exist
--     edge_apart     edges that differ in a byte of a, b and c differ in their transition or in a node
--     edge_names     each edge of a section that was counted names a transition and nodes that exist
--     edge_new       none repeats an earlier one
-- Assumes nothing.
use mathlib.Core.Path.{◌≡◌, sym, ◌∙◌}
use mathlib.Core.Bool.{true, false, ◌&&◌, and-eq-true_iff, false≢true}
use mathlib.Core.List.{List}
use Prim.Native.Nat.{ℕ, ◌+◌, ◌-◌, ◌*◌, ◌<◌}
use native.Mathlib.Omega.{arith}
use borrow.Author.Tests.{ltb-true}
use lib.ListN.{get_or}
use lib.Dec.{ltb, leb}
use Rattle.std.specs.declared.result.Result.TheVariants.{Ok}
use Rattle.truths.proofs.Laws.Any.{any_false}
use Rattle.records.specs.Record.{field_a, field_b, field_c, field_d, zeros_of, same_bytes}
use Rattle.records.proofs.Laws.Record.{bytes_none, bytes_next, word_bytes}
use Rattle.sections.specs.Section.{items, edge_fields, edge_at, repeated_of, edge_of, edges_of}
use Rattle.sections.proofs.Laws.Section.{single_nth, edge_opens}

module _ (file : List ℕ) where
  pub edge_named : (transitions nodes at : ℕ) → edge_fields file transitions nodes at ≡ true
      → ((edge_at file at).transition < transitions) × ((edge_at file at).from < nodes) × ((edge_at file at).to < nodes)
  unfolding edge_fields edge_at
  edge_named transitions nodes at right =
      let a = ltb (field_a file at) transitions in
      let b = ltb (field_b file at) nodes in
      let c = ltb (field_c file at) nodes in
      let d = leb (field_d file at) 1 in
      let p = (and-eq-true_iff (a && b && c && d) (zeros_of file (8 * at + 7) 1)).0 right in
      let q = (and-eq-true_iff (a && b && c) d).0 p.0 in
      let s = (and-eq-true_iff (a && b) c).0 q.0 in
      let t = (and-eq-true_iff a b).0 s.0 in
      (ltb-true _ _ t.0, ltb-true _ _ t.1, ltb-true _ _ s.1)

  -- a node's number is two bytes, so bytes are what the numbers of two nodes differ in
  module _ (bytes : (k : ℕ) → get_or file k 0 < 256) where
    pub edge_apart : (i j : ℕ) → same_bytes file (8 * i + 1) (8 * j + 1) 5 ≡ false
        → let x = edge_at file i in let y = edge_at file j in x.transition ≡ y.transition → x.from ≡ y.from → x.to ≡ y.to → ⊥
    unfolding edge_at
    edge_apart i j apart a b c =
        let next = bytes_next file (8 * i) (8 * j) in
        let from = word_bytes file (8 * i) (8 * j) bytes 2 b in
        let to = word_bytes file (8 * i) (8 * j) bytes 4 c in
        let nodes = next 2 3 from.0 (next 3 2 from.1 (next 4 1 to.0 (next 5 0 to.1 (bytes_none file (8 * i) (8 * j) 6)))) in
        false≢true (sym apart ∙ next 1 4 a nodes)

-- ---- the edges of a section that was counted
module _ (file : List ℕ) (transitions nodes first m end : ℕ) (is : edges_of file transitions nodes first ≡ Ok (items m end)) where
  edge_both : (e : ℕ) → e < m → (edge_fields file transitions nodes (first + e) ≡ true) × (edge_of file first (first + e) ≡ Ok (first + e + 1))
  unfolding edges_of
  edge_both = single_nth _ _ _ (edge_of file first) (λ i x q. (edge_opens file first i x q).1) _ _ 512 _ is

  pub edge_names : (e : ℕ) → e < m
      → let x = edge_at file (first + e) in (x.transition < transitions) × (x.from < nodes) × (x.to < nodes)
  edge_names e l = edge_named file transitions nodes (first + e) (edge_both e l).0

  bytes_new : (i j : ℕ) → i < j → j < m → same_bytes file (8 * (first + i) + 1) (8 * (first + j) + 1) 5 ≡ false
  unfolding repeated_of
  bytes_new i j l k =
      let at = first + j in
      let new = (edge_opens file first at (at + 1) (edge_both j k).1).0 in
      any_false (λ e. same_bytes file (8 * e + 1) (8 * at + 1) 5) (at - first) first new i (omega arith)

  pub edge_new : ((k : ℕ) → get_or file k 0 < 256) → (i j : ℕ) → i < j → j < m
      → let x = edge_at file (first + i) in let y = edge_at file (first + j) in
      x.transition ≡ y.transition → x.from ≡ y.from → x.to ≡ y.to → ⊥
  edge_new bytes i j l k = edge_apart file bytes (first + i) (first + j) (bytes_new i j l k)
