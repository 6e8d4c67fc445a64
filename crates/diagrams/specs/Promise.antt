-- What is promised of a file with diagram g, for the judging layer: one page. Each part follows from the answer of `find` alone.
use Rattle.std.specs.Prelude.{◌≡◌, true, false, List, ℕ, ◌+◌, ◌*◌, ◌<◌, ◌≤◌, length, get_or, ℤ}
use Rattle.shapes.specs.Property.{property_of}
use Rattle.states.specs.Ranges.{Ranges, Idle}
use Rattle.states.specs.Number.{count_of}
use Rattle.expressions.specs.Fits.{TruthFits}
use Rattle.evaluating.specs.Fits.{TransitionFits}
use Rattle.diagrams.specs.declared.Diagram.{Diagram}
use Rattle.diagrams.specs.Diagram.{State, edge_of}
use Rattle.diagrams.specs.Truth.{claimed_at, q_at}
use Rattle.diagrams.specs.System.{step_at, just_of}

-- edge e names a transition and nodes that exist; it leads from a node that it may, and not up unless it may; a double one leads down, unless edges may
-- rise, and its transition is just
pub record EdgeRight (file : List ℕ) (g : Diagram) (e : ℕ) : Type 0 where
  pub transition : (edge_of file g e).transition < g.transitions
  pub from : (edge_of file g e).from < g.nodes
  pub to : (edge_of file g e).to < g.nodes
  pub leads : (property_of g.claim).from ≤ (edge_of file g e).from
  pub level : (property_of g.claim).rising ≡ false → (edge_of file g e).to ≤ (edge_of file g e).from
  pub may_double : (edge_of file g e).double ≡ true → (property_of g.claim).doubles ≡ true
  pub down : (edge_of file g e).double ≡ true → (property_of g.claim).rising ≡ false → (edge_of file g e).to < (edge_of file g e).from
  pub just : (edge_of file g e).double ≡ true → just_of file g (edge_of file g e).transition ≡ true

-- the one double transition of a node: it is just, a double edge carries it from the node, and so does no single one
pub record DoubleTransition (file : List ℕ) (g : Diagram) (node : ℕ) : Type 0 where
  pub transition : ℕ
  pub there : transition < g.transitions
  pub just : just_of file g transition ≡ true
  pub edge : ℕ
  pub edge_there : edge < g.edges
  pub edge_from : (edge_of file g edge).from ≡ node
  pub edge_double : (edge_of file g edge).double ≡ true
  pub edge_carries : (edge_of file g edge).transition ≡ transition
  pub only : (e : ℕ) → e < g.edges → (edge_of file g e).from ≡ node → (edge_of file g e).double ≡ true → (edge_of file g e).transition ≡ transition
  pub never_single : (e : ℕ) → e < g.edges → (edge_of file g e).from ≡ node → (edge_of file g e).transition ≡ transition
      → (edge_of file g e).double ≡ true

-- a truth expression can be evaluated at every state, and its record number is small
pub record TruthRight (file : List ℕ) (g : Diagram) (at : ℕ) : Type 0 where
  pub small : at ≤ 4096
  pub fits : (state : List ℤ) → State g state → TruthFits file at state

pub record Promise (file : List ℕ) (g : Diagram) : Type 0 where
  -- counts, within their limits
  pub small : length file ≤ 32768
  pub variables : (1 ≤ g.vars) × (g.vars ≤ 12)
  pub transitions : g.transitions ≤ 32
  pub nodes : (1 ≤ g.nodes) × (g.nodes ≤ 32)
  pub edges : g.edges ≤ 512
  pub known : (property_of g.claim).known ≡ true
  -- twelve ranges, none of them empty; the states
  pub ranges : Ranges g.low g.high
  pub long : length g.low ≡ 12
  pub counted : g.states ≡ count_of g.low g.high
  pub states : (1 ≤ g.states) × (g.states ≤ 1048576)
  pub idle : (state : List ℤ) → State g state → Idle g.vars g.low g.high state
  -- each expression and each transition can be evaluated
  pub start : TruthRight file g g.start
  pub p : TruthRight file g (claimed_at file g 0)
  pub q : (n : ℕ) → n < g.nodes → TruthRight file g (q_at file g n)
  pub assertion : (n : ℕ) → n < g.nodes → TruthRight file g (get_or g.assertions n 0)
  pub step : (t : ℕ) → t < g.transitions → (state : List ℤ) → State g state → TransitionFits file (step_at g t) state
  -- the edges: each is there and right, none repeats another, and each node that has to have one has its double transition
  pub edge_here : (e : ℕ) → e < g.edges → 8 * (g.edge + e) + 8 ≤ length file
  pub edge : (e : ℕ) → e < g.edges → EdgeRight file g e
  pub edge_new : ((k : ℕ) → get_or file k 0 < 256) → (i j : ℕ) → i < j → j < g.edges
      → (edge_of file g i).transition ≡ (edge_of file g j).transition → (edge_of file g i).from ≡ (edge_of file g j).from
      → (edge_of file g i).to ≡ (edge_of file g j).to → ⊥
  pub doubled : (property_of g.claim).doubles ≡ true → (n : ℕ) → (property_of g.claim).from ≤ n → n < g.nodes → DoubleTransition file g n
