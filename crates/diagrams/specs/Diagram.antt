-- The diagram of a file, with its system: the states, and where the transitions and the parts of the diagram stand.
use Rattle.std.specs.Prelude.{◌≡◌, List, ℕ, ◌+◌, get_or, ℤ, Result, Ok}
use Rattle.shapes.specs.declared.Edge.{Edge}
use Rattle.shapes.specs.declared.Outline.{Outline}
use Rattle.records.specs.Place.{places_of}
use Rattle.truths.specs.Table.{table_of}
use Rattle.sections.specs.Section.{claim_at, property_at, edge_at, transition_of, node_of}
use Rattle.shapes.specs.declared.Refusal.{Refusal}
use Rattle.reading.specs.Read.{read_of}
use Rattle.states.specs.State.{Within}
use Rattle.ranges.specs.Range.{lows_of, highs_of}
use Rattle.states.specs.Number.{count_of, state_of, number_of}
use Rattle.diagrams.specs.declared.Diagram.{Diagram}

-- for C11.6: what reading finds: the parts of a file, or the first refusal of 2 to 10 and 19
unfoldable pub found_of : List ℕ → Result Outline Refusal
found_of file = read_of file

-- for C1.13: the assertions of the first n nodes stand behind the nodes' records
unfoldable pub assertions_of : List ℕ → ℕ → List ℕ
assertions_of nodes n = table_of 32 0 (λ i. get_or nodes i 0 + 1) n

-- for C1.7, C1.12, C4.3: where the parts of a file stand, and how many states it has. The start's and the property's truths stand behind their records
unfoldable pub diagram_of : List ℕ → Outline → Diagram
diagram_of file o =
    record {
      vars = o.vars;
      low = lows_of file o.vars;
      high = highs_of file o.vars;
      states = count_of (lows_of file o.vars) (highs_of file o.vars);
      start = o.vars + 1;
      transitions = o.transitions;
      steps = places_of (transition_of file o.vars) o.transitions o.transition;
      claim = claim_at file o.property;
      claimed = o.property + 1;
      nodes = o.nodes;
      assertions = assertions_of (places_of (node_of file o.vars (property_at file o.property).ranks) o.nodes o.node) o.nodes;
      edges = o.edges;
      edge = o.edge;
    }

-- for C11.6: reading found the parts of the file, and g is its diagram
pub record Loaded (file : List ℕ) (g : Diagram) : Type 0 where
  pub outline : Outline
  pub found : found_of file ≡ Ok outline
  pub is : g ≡ diagram_of file outline

-- ---- states
-- C4.1: a value for each variable, in its range
abbrev pub State : Diagram → List ℤ → Type 0
State g state = Within g.low g.high state

-- C4.4: the state with a number, and the number of a state
unfoldable pub state_at : Diagram → ℕ → List ℤ
state_at g n = state_of g.low g.high n

unfoldable pub state_number : Diagram → List ℤ → ℕ
state_number g state = number_of g.low g.high state

-- ---- edges

-- C1.14: edge e
unfoldable pub edge_of : List ℕ → Diagram → ℕ → Edge
edge_of file g e = edge_at file (g.edge + e)
