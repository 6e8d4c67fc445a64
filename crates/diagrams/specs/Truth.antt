-- The truths of a diagram at a state: its start, its nodes, and the property's p and q.
use Rattle.std.specs.Prelude.{Bool, cond, List, ℕ, ◌+◌, get_or, ℤ}
use Rattle.shapes.specs.declared.Claim.{Claim}
use Rattle.shapes.specs.Property.{property_of}
use Rattle.records.specs.Walk.{in_sequence, truth_of}
use Rattle.records.specs.Place.{place_of}
use Rattle.expressions.specs.Expression.{holds_of}
use Rattle.diagrams.specs.declared.Diagram.{Diagram}

-- C6.3: a starting state
unfoldable pub start_holds : List ℕ → Diagram → List ℤ → Bool
start_holds file g state = holds_of file g.start state

-- C8.1: node n is true
unfoldable pub node_holds : List ℕ → Diagram → ℕ → List ℤ → Bool
node_holds file g n state = holds_of file (get_or g.assertions n 0) state

-- for C1.12: where truth i of the property stands
unfoldable pub claimed_at : List ℕ → Diagram → ℕ → ℕ
claimed_at file g i = place_of (in_sequence (truth_of file g.vars) i g.claimed)

-- C1.12: p stands first
unfoldable pub p_holds : List ℕ → Diagram → List ℤ → Bool
p_holds file g state = holds_of file (claimed_at file g 0) state

-- C1.12, C8.9: the q of node i is q_i where each phase has one, else the only one; behind p, where there is a p
unfoldable pub q_number : Claim → ℕ → ℕ
q_number c i = cond (property_of c).entry 1 0 + cond (property_of c).phased i 0

unfoldable pub q_at : List ℕ → Diagram → ℕ → ℕ
q_at file g i = claimed_at file g (q_number g.claim i)

unfoldable pub q_holds : List ℕ → Diagram → ℕ → List ℤ → Bool
q_holds file g i state = holds_of file (q_at file g i) state
