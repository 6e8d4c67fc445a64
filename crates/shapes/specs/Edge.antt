-- An edge by itself.
use Rattle.std.specs.Prelude.{Bool, ◌&&◌, ℕ, eqb}
use Rattle.shapes.specs.declared.Edge.{Edge}

-- for C9.9: it is a double edge from the node
unfoldable pub double_from : ℕ → Edge → Bool
double_from node e = e.double && eqb e.from node
