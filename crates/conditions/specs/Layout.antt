-- The list of conditions by quotients and remainders, as the code finds the condition of a number. That it is the list is a law
-- (proofs/Laws/Condition.antt).
use Rattle.std.specs.Prelude.{not, cond, List, ℕ, ◌+◌, ◌*◌, ◌/◌, ◌%◌, ltb, eqb}
use Rattle.shapes.specs.Property.{property_of}
use Rattle.shapes.specs.Edge.{double_from}
use Rattle.diagrams.specs.declared.Diagram.{Diagram}
use Rattle.diagrams.specs.Diagram.{edge_of}
use Rattle.truths.specs.Search.{first_failing}
use Rattle.conditions.specs.declared.Condition.{Condition}
use Rattle.conditions.specs.declared.Condition.TheVariants.{Range, Step}
use Rattle.conditions.specs.declared.Blocks.{Blocks}
use Rattle.conditions.specs.Condition.{covered_of}

unfoldable pub layout_of : Diagram → Blocks
layout_of g =
    record { covers = covered_of g; from = (property_of g.claim).from; size = 2 * g.transitions + cond (property_of g.claim).doubles 1 0 }

-- range and step of node n, the two of each transition side by side
unfoldable pub pair_of : ℕ → ℕ → Condition
pair_of n k = cond (eqb (k % 2) 0) (Range n (k / 2)) (Step n (k / 2))

-- the double transition of a node: that of its first double edge, or one past the file's transitions where it has none
unfoldable pub double_edge : List ℕ → Diagram → ℕ → ℕ
double_edge file g n = first_failing (λ e. not (double_from n (edge_of file g e))) g.edges

unfoldable pub double_of : List ℕ → Diagram → ℕ → ℕ
double_of file g n = cond (ltb (double_edge file g n) g.edges) (edge_of file g (double_edge file g n)).transition g.transitions
