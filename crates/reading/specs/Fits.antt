-- What the code asks of a file's outline and of an edge's record.
use Rattle.std.specs.Prelude.{◌≡◌, ℕ, ◌+◌, ◌*◌, ◌/◌, ◌<◌, ◌≤◌, List, length}
use Rattle.shapes.specs.declared.Outline.{Outline}
use Rattle.sections.specs.Section.{edge_at, transition_of}
use Rattle.records.specs.Place.{places_of}

-- the outline stays within the file, its counts within their limits, and its edges name its transitions
pub record OutlineFits (file : List ℕ) (o : Outline) : Type 0 where
  pub vars_most : o.vars ≤ 12
  pub variables_here : 8 * o.vars ≤ length file
  pub transition_here : o.transition ≤ length file / 8
  pub transitions_most : o.transitions ≤ 32
  pub property_here : 8 * o.property + 8 ≤ length file
  pub nodes_most : o.nodes ≤ 32
  pub edges_here : 8 * (o.edge + o.edges) ≤ length file
  pub edges_named : (e : ℕ) → e < o.edges → (edge_at file (o.edge + e)).transition < o.transitions

-- an edge's record at `at`, and the places of the transitions
pub record EdgeFits (file : List ℕ) (o : Outline) (places : List ℕ) (at : ℕ) : Type 0 where
  pub outline : OutlineFits file o
  pub found : places ≡ places_of (transition_of file o.vars) o.transitions o.transition
  pub here : 8 * at + 8 ≤ length file
  pub behind : o.edge ≤ at
  pub named : (edge_at file at).transition < o.transitions
