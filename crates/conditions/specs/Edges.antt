-- The edges of a diagram, by the transition that they carry and the node that they lead from.
use Rattle.std.specs.Prelude.{Bool, ◌&&◌, List, ℕ, eqb}
use Rattle.shapes.specs.declared.Edge.{Edge}
use Rattle.diagrams.specs.declared.Diagram.{Diagram}
use Rattle.diagrams.specs.Diagram.{edge_of}
use Rattle.truths.specs.Search.{any}

-- for C8.11: the edge carries transition t from node n
unfoldable pub carries : ℕ → ℕ → Edge → Bool
carries n t e = eqb e.from n && eqb e.transition t

-- for C8.12: double edges carry t from node n; only a chain has them
unfoldable pub is_double : List ℕ → Diagram → ℕ → ℕ → Bool
is_double file g n t = any (λ e. carries n t (edge_of file g e) && (edge_of file g e).double) g.edges 0
