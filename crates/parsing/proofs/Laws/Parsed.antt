-- Laws of a file that parses.
--     variables_most, transitions_most, nodes_allowed, nodes_most, edges_most     its counts lie within their limits (C10.5)
--     nodes_least    it has a node (C1.13)
--     variable_range     a variable's range is not empty
--     edge_names     an edge names a transition and nodes of the file (C1.15)
--     edges_end      the edges, of one record each, end the file
--     edge_new       no edge repeats an earlier one (C10.6)
-- Assumes nothing.
use mathlib.Core.Path.{◌≡◌}
use mathlib.Core.List.{List}
use Prim.Native.Nat.{ℕ, ◌+◌, ◌/◌, ◌<◌, ◌≤◌}
use native.Mathlib.Omega.{arith}
use lib.ListN.{length, get_or}
use lib.Signed.{◌≤ℤ◌}
use Rattle.shapes.specs.declared.Outline.{Outline}
use Rattle.records.specs.Record.{value_b, value_c}
use Rattle.sections.specs.Section.{phases_or, edge_at}
use Rattle.sections.proofs.Laws.Property.{property_nodes}
use Rattle.sections.proofs.Laws.Counted as counted
use Rattle.sections.proofs.Laws.Edge as edges
use Rattle.parsing.proofs.Laws.Outline.{Parses}

module _ (file : List ℕ) (o : Outline) (p : Parses file o) where
  -- ---- counts
  pub variables_most : o.vars ≤ 12
  variables_most = counted.variables_limit _ _ _ p.variables

  pub transitions_most : o.transitions ≤ 32
  transitions_most = counted.transitions_limit _ _ _ _ _ p.transitions

  pub nodes_least : 1 ≤ o.nodes
  nodes_least = let z = (property_nodes file o.property p.property_right).0 in omega (arith, p.enough)

  pub nodes_allowed : o.nodes ≤ phases_or file o.property 32
  nodes_allowed = counted.nodes_limit _ _ _ _ _ _ _ p.nodes

  pub nodes_most : o.nodes ≤ 32
  nodes_most = let z = (property_nodes file o.property p.property_right).1 in omega (arith, nodes_allowed)

  pub edges_most : o.edges ≤ 512
  edges_most = counted.edges_limit _ _ _ _ _ _ p.edges

  pub edges_end : length file / 8 ≡ o.edge + o.edges
  edges_end = counted.edges_end _ _ _ _ _ _ p.edges

  -- ---- variables and edges
  pub variable_range : (v : ℕ) → v < o.vars → value_b file v ≤ℤ value_c file v
  variable_range = counted.variable_range _ _ _ p.variables

  pub edge_names : (e : ℕ) → e < o.edges
      → let x = edge_at file (o.edge + e) in (x.transition < o.transitions) × (x.from < o.nodes) × (x.to < o.nodes)
  edge_names = edges.edge_names _ _ _ _ _ _ p.edges

  pub edge_new : ((k : ℕ) → get_or file k 0 < 256) → (i j : ℕ) → i < j → j < o.edges
      → let x = edge_at file (o.edge + i) in let y = edge_at file (o.edge + j) in
      x.transition ≡ y.transition → x.from ≡ y.from → x.to ≡ y.to → ⊥
  edge_new = edges.edge_new _ _ _ _ _ _ p.edges
