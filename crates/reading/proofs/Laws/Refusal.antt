-- A refusal of reading has a number of 2 or more, and a place of at most 4,096: so it is for parsing, and each later stage names a variable, a
-- record or a node.
--     read_refuses     of the whole file (C11.7)
-- Assumes nothing.
use mathlib.Core.Bool.{Bool, cond}
use mathlib.Core.List.{List}
use Prim.Native.Nat.{ℕ, zero, suc, ◌+◌, ◌-◌, ◌*◌, ◌/◌, ◌<◌, ◌≤◌}
use lib.ListN.{length}
use Rattle.shapes.specs.declared.Refusal.{Refusal}
use Rattle.records.specs.Record.{kind_is}
use native.Mathlib.Omega.{arith}
use lib.Dec.{leb}
use Rattle.shapes.specs.declared.Outline.{Outline}
use Rattle.parsing.specs.Outline.{parsed_of}
use Rattle.parsing.specs.Refusal.{Refused, Refuses}
use Rattle.parsing.proofs.Laws.Refusal.{refused, walked_ends, test_refuses, walk_then, parse_refuses}
use Rattle.parsing.proofs.Laws.Outline.{Parses, parses}
use Rattle.records.specs.Walk.{refuse_first}
use Rattle.reading.specs.States.{size_at, states_of}
use Rattle.reading.specs.Picks.{picks_at, past_record, picks_from, picks_of}
use Rattle.reading.specs.declared.product.Combined.{Combined}
use Rattle.truths.proofs.Laws.Truth.{by-test}
use Rattle.intervals.specs.Interval.{intervals_of}
use Rattle.shapes.proofs.Laws.Property.{from_most}
use Rattle.sections.specs.Section.{claim_at, property_at}
use Rattle.reading.specs.Edge.{rule_of, rules_of, doubled_of, doubles_of}
use Rattle.reading.specs.Read.{stages_read, read_of}
use Rattle.records.proofs.Laws.Refuse.{refused_first}
use Rattle.intervals.proofs.Laws.Outside.{refused_intervals}
use Rattle.reading.proofs.Laws.Fits.{fits}

-- ---- numbers in a row
module _ {most : ℕ} where
  -- `right` is what is known of a number that is refused
  row_refuses : (refuse : ℕ → Refusal) (test : ℕ → Bool) (left at : ℕ) → ((i : ℕ) → i < at + left → Refused most (refuse i))
      → Refuses most (refuse_first refuse test left at)
  row_refuses refuse test left at right r e = let f = refused_first refuse test r left at e in rw f.1 (right f.0 f.2)

  states_refuses : (file : List ℕ) (left at product : ℕ) → at + left ≤ most → Refuses most (states_of file left at product)
  unfolding states_of
  states_refuses file zero at product l = walked_ends
  states_refuses file (suc left) at product l =
      let next = product * size_at file at in
      test_refuses (leb next 1048576) (λ h. states_refuses file left (at + 1) next (omega arith)) (λ h. refused (Refusal.States at) (omega arith) (omega arith))

  -- the place is a record that was met
  past_place : (file : List ℕ) (at : ℕ) (p : Combined) → at ≤ most → p.place ≤ most → (past_record file at p).place ≤ most
  unfolding past_record
  past_place file at p l m =
      by-test (kind_is file 0x03 at) (λ b. (cond b (picks_at at 1) (cond (kind_is file 0x08 at) (picks_at p.place (p.product * size_at file at)) p)).place ≤ most)
      (λ h. l) (λ h. by-test (kind_is file 0x08 at) (λ b. (cond b (picks_at p.place (p.product * size_at file at)) p).place ≤ most) (λ k. m) (λ k. m))

  picks_refuse : (file : List ℕ) (left at : ℕ) (p : Combined) → at + left ≤ most → p.place ≤ most → Refuses most (picks_from file left at p)
  unfolding picks_from
  picks_refuse file zero at p l m = walked_ends
  picks_refuse file (suc left) at p l m =
      let q = past_record file at p in
      let n = past_place file at p (omega arith) m in
      test_refuses (leb q.product 4096) (λ f. picks_refuse file left (at + 1) q (omega arith) n) (λ f. refused (Refusal.Picks q.place) (omega arith) n)

-- ---- the stages
module _ (file : List ℕ) (o : Outline) (p : Parses file o) where
  intervals_refuse : Refuses 4096 (intervals_of file)
  intervals_refuse r e =
      let small = p.small in
      let q = refused_intervals file r e in
      record { from = omega arith; within = omega arith }

  doubles_refuse : Refuses 4096 (doubles_of file o)
  unfolding doubles_of
  doubles_refuse =
      let nodes = (fits file o p).nodes_most in
      let p = property_at file o.property in
      let few = from_most (claim_at file o.property) in
      test_refuses p.doubles (λ c. row_refuses Refusal.NoWayDown (doubled_of file o) (o.nodes - p.from) p.from (λ i l. record { from = omega arith; within = omega arith }))
      (λ c. walked_ends)

  stages_refuse : Refuses 4096 (stages_read file o)
  unfolding stages_read rules_of picks_of
  stages_refuse =
      let small = p.small in
      let f = fits file o p in
      let here = f.edges_here in
      let vars = f.vars_most in
      walk_then (states_of file o.vars 0 1) (states_refuses file o.vars 0 1 (omega arith)) λ x e.
      walk_then (picks_of file) (picks_refuse file (length file / 8) 0 (picks_at 0 1) (omega arith) (omega arith)) λ x e.
      walk_then (intervals_of file) intervals_refuse λ x e.
      walk_then (rules_of file o) (row_refuses Refusal.Edge (rule_of file o) o.edges o.edge (λ i l. record { from = omega arith; within = omega arith })) λ x e.
      walk_then (doubles_of file o) doubles_refuse λ x e.
      walked_ends

pub read_refuses : (file : List ℕ) → Refuses 4096 (read_of file)
unfolding read_of
read_refuses file = walk_then (parsed_of file) (parse_refuses file) λ o is. stages_refuse file o (parses file o is)
