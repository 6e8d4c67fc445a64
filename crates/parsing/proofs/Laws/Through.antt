-- What is carried from record to record through a file that parses: P holds at the first record; past a record that begins an item it goes on holding,
-- and so it does past a whole expression.
--     at_start, at_transitions, at_claims, at_nodes, at_end     where it then holds: at each section
--     update_through, transition_through, node_through          and past each update, each transition and each node
-- Assumes nothing.
use mathlib.Core.Path.{◌≡◌}
use mathlib.Core.Bool.{true}
use mathlib.Core.List.{List}
use Prim.Native.Nat.{ℕ, ◌+◌, ◌/◌}
use native.Mathlib.Omega.{arith}
use lib.ListN.{length, replicate}
use Rattle.std.specs.declared.result.Result.TheVariants.{Ok}
use Rattle.shapes.specs.declared.Outline.{Outline}
use Rattle.records.specs.Record.{kind_is}
use Rattle.std.specs.declared.option.Option.TheVariants.{None}
use Rattle.records.specs.declared.kinds.Sort.{Sort}
use Rattle.records.specs.Kind.{number, truth, signature_of}
use Rattle.records.specs.Walk.{walk_of, truth_of}
use Rattle.sections.specs.Section.{is_update, update_of, transition_of, expressions_of, node_of}
use Rattle.records.proofs.Laws.Kind.{head_none}
use Rattle.sections.proofs.Laws.Section.{sequence_through, update_assigns, pick_ends, assignment_ends, updates_through, transition_opens, node_opens}
use Rattle.sections.proofs.Laws.Counted.{variables_through, transitions_through, nodes_through, edges_through}
use Rattle.truths.proofs.Laws.Truth.{by-test}
use Rattle.parsing.proofs.Laws.Outline.{Parses}

-- what is carried past a record that begins an item, and past an expression
abbrev PastHead : List ℕ → (ℕ → Type 0) → Type 0
PastHead file P = (kind at : ℕ) → (signature_of kind).sort ≡ None → kind_is file kind at ≡ true → P at → P (at + 1)

abbrev PastExpression : List ℕ → ℕ → (ℕ → Type 0) → Type 0
PastExpression file vars P = (want : Sort) (at end : ℕ) → walk_of file vars 16 want at ≡ Ok end → P at → P end

module _ (file : List ℕ) (vars : ℕ) (P : ℕ → Type 0) (head : PastHead file P) (expression : PastExpression file vars P) where
  -- a record of a section and the expression that follows it
  item_through : (kind : ℕ) (want : Sort) (at end : ℕ) → (signature_of kind).sort ≡ None → kind_is file kind at ≡ true
      → walk_of file vars 16 want (at + 1) ≡ Ok end → P at → P end
  item_through kind want at end u k w p = expression want (at + 1) end w (head kind at u k p)

  -- an update: a pick is such a record alone
  pub update_through : (at end : ℕ) → is_update file at ≡ true → update_of file vars at ≡ Ok end → P at → P end
  update_through at end u e p =
      by-test (kind_is file 0x08 at) (λ b. P end)
      (λ k. rw (pick_ends file vars at k e) (head 0x08 at (head_none (omega arith)) k p))
      (λ k. item_through 0x04 number at end (head_none (omega arith)) (update_assigns file vars at u k) (assignment_ends file vars at k e) p)

  pub transition_through : (end at : ℕ) → kind_is file 0x03 at ≡ true → transition_of file vars at ≡ Ok end → P at → P end
  transition_through end at k e p =
      let t = transition_opens file vars end at e in
      updates_through file vars end P update_through 12 (replicate 12 0) t.place t.updates
      (item_through 0x03 truth at t.place (head_none (omega arith)) k t.guard p)

  pub node_through : (ranks end at : ℕ) → kind_is file 0x06 at ≡ true → node_of file vars ranks at ≡ Ok end → P at → P end
  node_through ranks end at k e p =
      let n = node_opens file vars ranks at end e in
      sequence_through (walk_of file vars 16 number) P (expression number) end ranks n.mid n.rest
      (item_through 0x06 truth at n.mid (head_none (omega arith)) k n.first p)

-- ---- the sections in their order
module _ (file : List ℕ) (o : Outline) (p : Parses file o) (P : ℕ → Type 0) (head : PastHead file P) (expression : PastExpression file o.vars P)
    (first : P 0) where
  pub at_start : P o.vars
  at_start = variables_through _ _ _ p.variables P (λ i. head 0x01 i (head_none (omega arith))) first

  pub at_transitions : P o.transition
  at_transitions =
      item_through file o.vars P head expression 0x02 truth o.vars o.transition (head_none (omega arith))
      p.start_named p.start at_start

  at_property : P o.property
  at_property = transitions_through _ _ _ _ _ p.transitions P (λ i x. transition_through file o.vars P head expression x i) at_transitions

  pub at_claims : P (o.property + 1)
  at_claims = head 0x05 o.property (head_none (omega arith)) p.property_named at_property

  pub at_nodes : P o.node
  at_nodes =
      sequence_through (truth_of file o.vars) P (expression truth)
      o.node (expressions_of file o.property) (o.property + 1) p.truths at_claims

  at_edges : P o.edge
  at_edges = nodes_through _ _ _ _ _ _ _ p.nodes P (λ i x. node_through file o.vars P head expression _ x i) at_nodes

  pub at_end : P (length file / 8)
  at_end = edges_through _ _ _ _ _ _ p.edges P (λ i. head 0x07 i (head_none (omega arith))) at_edges
