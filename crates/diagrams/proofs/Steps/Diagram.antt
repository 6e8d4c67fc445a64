-- What the functions that look a diagram up ask, and what they answer.
-- Assumes nothing.
use mathlib.Core.Path.{◌≡◌, sym, ◌∙◌}
use mathlib.Core.List.{List}
use Prim.Native.Nat.{ℕ, ◌+◌, ◌*◌, ◌/◌, ◌<◌, ◌≤◌}
use native.Mathlib.Omega.{arith}
use lib.ListN.{length, get_or, set, replicate}
use lib.IntN.{ℤ}
use Rattle.std.specs.declared.result.Result.TheVariants.{Ok}
use Rattle.shapes.specs.declared.Outline.{Outline}
use Rattle.shapes.specs.declared.Property.{Property}
use Rattle.records.proofs.Laws.Walk.{sequence_none}
use Rattle.records.specs.Place.{places_of}
use Rattle.truths.proofs.Laws.Table.{table_none, table_more}
use Rattle.sections.specs.Section.{property_at, node_of}
use Rattle.records.proofs.Laws.Record.{kind_is_lem}
use Rattle.states.specs.Ranges.{Ranges}
use Rattle.ranges.specs.Range.{lows_of, highs_of}
use Rattle.states.specs.Number.{count_of}
use Rattle.reading.specs.Read.{read_of}
use Rattle.reading.proofs.Laws.Readable as readable
use Rattle.evaluating.proofs.Laws.Readable as evaluable
use Rattle.diagrams.specs.declared.Diagram.{Diagram}
use Rattle.diagrams.specs.Diagram.{found_of, assertions_of, Loaded}
use Rattle.diagrams.specs.Promise.{Promise}
use Rattle.diagrams.proofs.Laws.Diagram.{found_read, promised}

-- ---- a table of assertions as it is filled
pub assertions_none : (nodes : List ℕ) → assertions_of nodes 0 ≡ replicate 32 0
unfolding assertions_of
assertions_none nodes = table_none 32 0 (λ i. get_or nodes i 0 + 1)

pub assertions_more : (nodes : List ℕ) (n : ℕ) {places : List ℕ} → places ≡ assertions_of nodes n → n < 32
    → set places n (get_or nodes n 0 + 1) ≡ assertions_of nodes (n + 1)
unfolding assertions_of
assertions_more nodes n is l = rw is (table_more 32 0 (λ i. get_or nodes i 0 + 1) n l)

-- ---- what is asked
module _ (file : List ℕ) (o : Outline) (e : found_of file ≡ Ok o) where
  abbrev r : read_of file ≡ Ok o
  r = found_read file o e

  pub vars_few : o.vars ≤ 12
  vars_few = (readable.variables_within file o r).1

  pub count_asks : {low high : List ℤ} → low ≡ lows_of file o.vars → high ≡ highs_of file o.vars → Ranges low high × (count_of low high ≤ 1048576)
  count_asks l h = rw (l, h) (evaluable.ranges file o r, (evaluable.states_within file o r).1)

  pub nodes_ask : (o.nodes ≤ 32) × (o.node ≤ length file / 8)
  nodes_ask =
      let n = readable.nodes_within file o r in
      let x = readable.node file o r 0 (omega arith) in
      let e : o.node ≡ x.place = cc (sequence_none (node_of file o.vars (property_at file o.property).ranks) o.node, x.reached) in
      (n.1, omega (arith, (kind_is_lem file 0x06 x.place x.named).0))

  pub assertions_ask : {row : Property} {nodes : List ℕ} → row ≡ property_at file o.property
      → nodes ≡ places_of (node_of file o.vars row.ranks) o.nodes o.node
      → (o.nodes ≤ 32) × ((i : ℕ) → i < o.nodes → get_or nodes i 0 ≤ 4096)
  assertions_ask p is = (
    nodes_ask.0,
    λ i l.
        let x = readable.node file o r i l in
        let s = readable.small file o r in
        rw (is, p, readable.node_place file o r i l) (omega (arith, (kind_is_lem file 0x06 x.place x.named).0)),
  )

  pub transitions_ask : (o.vars ≤ 12) × (o.transitions ≤ 32) × (o.transition ≤ length file / 8)
  transitions_ask = (vars_few, readable.transitions_within file o r, (readable.fits file o r).transition_here)

  pub property_asks : (8 * o.property + 8 ≤ length file) × (length file ≤ 32768)
  property_asks = ((readable.fits file o r).property_here, readable.small file o r)

module _ {file : List ℕ} {g : Diagram} (r : Loaded file g) where
  pub keeps : Promise file g
  keeps = promised file g r
