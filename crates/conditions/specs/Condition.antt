-- The verification conditions of a diagram, in the order of their numbers, and how a broken one is named.
use Rattle.std.specs.Prelude.{cond, ℕ, zero, suc, ◌+◌, ◌-◌, length, get_or}
use mathlib.Core.List.{List, [], ◌∷◌, ◌++◌, Memᴰ}
use Rattle.diagrams.specs.declared.Diagram.{Diagram}
use Rattle.shapes.specs.Property.{property_of}
use Rattle.conditions.specs.Edges.{is_double}
use Rattle.conditions.specs.declared.Condition.{Condition}
use Rattle.conditions.specs.declared.Condition.TheVariants.{Start, Entry, Cover, Range, Step, Enabling}

-- for C8.3: what f gives at the n numbers from `at` on, one list behind the other
unfoldable pub each : {A : Type 0} → (ℕ → List A) → ℕ → ℕ → List A
each f zero at = []
each f (suc n) at = f at ++ each f n (at + 1)

-- for C8.4 to C8.6: the conditions of node n and transition t; only a chain has double edges
unfoldable pub moves_of : List ℕ → Diagram → ℕ → ℕ → List Condition
moves_of file g n t = Range n t ∷ Step n t ∷ cond (is_double file g n t) (Enabling n t ∷ []) []

-- for C8.4 to C8.6: the first condition
unfoldable pub opening_of : Diagram → Condition
opening_of g = cond (property_of g.claim).entry Entry Start

-- for C8.4 to C8.6: how many nodes are covered, all or the goal alone
unfoldable pub covered_of : Diagram → ℕ
covered_of g = cond (property_of g.claim).covered g.nodes 1

-- C8.3 to C8.6: the list, by the row of what the file claims
unfoldable pub conditions_of : List ℕ → Diagram → List Condition
conditions_of file g =
    let from = (property_of g.claim).from in
    opening_of g ∷ each (λ n. Cover n ∷ []) (covered_of g) 0 ++ each (λ n. each (moves_of file g n) g.transitions 0) (g.nodes - from) from

-- for C8.15: how many conditions there are
unfoldable pub total_of : List ℕ → Diagram → ℕ
total_of file g = length (conditions_of file g)

-- C8.3: condition c; `Start` beyond the list, where nobody asks
unfoldable pub condition_at : List ℕ → Diagram → ℕ → Condition
condition_at file g c = get_or (conditions_of file g) c Start

-- for C12.9: c is one of the list
abbrev pub Listed : List ℕ → Diagram → Condition → Type 0
Listed file g c = Memᴰ c (conditions_of file g)

-- ---- the name of a broken condition
-- C10.13 to C10.18, C12.3: the number of refusal, with node and transition, 255 for none (C12.6)
unfoldable pub name_of : Condition → ℕ × ℕ × ℕ
name_of Start = (13, 255, 255)
name_of Entry = (14, 255, 255)
name_of (Cover n) = (15, n, 255)
name_of (Range n t) = (16, n, t)
name_of (Step n t) = (17, n, t)
name_of (Enabling n t) = (18, n, t)

abbrev pub refusal_number : Condition → ℕ
refusal_number c = (name_of c).0

abbrev pub node_number : Condition → ℕ
node_number c = (name_of c).1

abbrev pub transition_number : Condition → ℕ
transition_number c = (name_of c).2
