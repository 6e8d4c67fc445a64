-- What is promised of a readable file, for the layers above: its start, transitions, property, nodes, edges and double transitions; and what refusal 8 says.
use Rattle.std.specs.Prelude.{◌≡◌, true, false, List, [], ◌∷◌, ℕ, ◌+◌, ◌<◌, ◌≤◌, ◌≤ℤ◌, Ok}
use Rattle.integers.specs.declared.Interval.{Interval}
use Rattle.integers.specs.Interval.{in_bounds}
use Rattle.shapes.specs.declared.Outline.{Outline}
use Rattle.records.specs.Record.{kind_at, field_a, value_b, value_c, kind_is}
use Rattle.records.specs.declared.kinds.Sort.{Sort}
use Rattle.records.specs.declared.kinds.Operands.TheVariants.{Zero, Two}
use Rattle.records.specs.Kind.{number, truth, signature_at}
use Rattle.records.specs.Walk.{in_sequence, walk_of, truth_of}
use Rattle.shapes.specs.declared.Edge.{Edge}
use Rattle.sections.specs.Section.{property_at, edge_at, is_update, transition_of, node_of}
use Rattle.intervals.specs.Interval.{within, leaf_of, join_of, analysis_of}
use Rattle.reading.specs.Edge.{just_of}
use Rattle.intervals.specs.Expression.{Expression}

-- ---- the start
pub record Start (file : List ℕ) (o : Outline) : Type 0 where
  pub interval : Interval
  pub expression : Expression file o.vars 16 truth (o.vars + 1) o.transition interval

-- ---- transitions
-- a is none of the variables vs
abbrev pub Apart : ℕ → List ℕ → Type 0
Apart a [] = Unit {0}
Apart a (v ∷ vs) = (a ≡ v → ⊥) × Apart a vs

-- the update at record `at`, which ends before record `end`: an assignment and its value, or a pick, its values in order and in the range of its variable
pub data Update (file : List ℕ) (vars at : ℕ) : ℕ → Type 0 where
  assigns : {end : ℕ} {i : Interval} → kind_is file 0x08 at ≡ false → Expression file vars 16 number (at + 1) end i → Update file vars at end
  picks : kind_is file 0x08 at ≡ true → value_b file at ≤ℤ value_c file at → value_b file (field_a file at) ≤ℤ value_b file at
      → value_c file at ≤ℤ value_c file (field_a file at) → Update file vars at (at + 1)

-- the updates from record `at` on, of the variables listed, each set once; the next record is none
pub data Updates (file : List ℕ) (vars end : ℕ) : ℕ → List ℕ → Type 0 where
  none : is_update file end ≡ false → Updates file vars end end []
  more : {at mid : ℕ} {vs : List ℕ} → is_update file at ≡ true → field_a file at < vars → Update file vars at mid → Updates file vars end mid vs
      → Apart (field_a file at) vs → Updates file vars end at (field_a file at ∷ vs)

-- transition t: it stands at `place`, behind t others; then its guard, to `behind`; then its updates
pub record Transition (file : List ℕ) (o : Outline) (t : ℕ) : Type 0 where
  pub place : ℕ
  pub behind : ℕ
  pub end : ℕ
  pub reached : in_sequence (transition_of file o.vars) t o.transition ≡ Ok place
  pub named : kind_is file 0x03 place ≡ true
  pub just_or_not : field_a file place ≤ 1
  pub interval : Interval
  pub guard : Expression file o.vars 16 truth (place + 1) behind interval
  pub sets : List ℕ
  pub updates : Updates file o.vars end behind sets

-- ---- the property's expressions and the nodes
-- expression i of the property: it stands at `place`, behind i others
pub record PropertyExpression (file : List ℕ) (o : Outline) (i : ℕ) : Type 0 where
  pub place : ℕ
  pub end : ℕ
  pub reached : in_sequence (truth_of file o.vars) i (o.property + 1) ≡ Ok place
  pub interval : Interval
  pub expression : Expression file o.vars 16 truth place end interval

-- node n: it stands at `place`, behind n others; then its assertion, to `mid`; then its ranks
pub record Node (file : List ℕ) (o : Outline) (n : ℕ) : Type 0 where
  pub place : ℕ
  pub mid : ℕ
  pub end : ℕ
  pub reached : in_sequence (node_of file o.vars (property_at file o.property).ranks) n o.node ≡ Ok place
  pub named : kind_is file 0x06 place ≡ true
  pub interval : Interval
  pub assertion : Expression file o.vars 16 truth (place + 1) mid interval
  pub ranks : in_sequence (walk_of file o.vars 16 number) (property_at file o.property).ranks mid ≡ Ok end

-- ---- edges
-- edge e, and it names a transition and two nodes of the file
abbrev pub edge_of : List ℕ → Outline → ℕ → Edge
edge_of file o e = edge_at file (o.edge + e)

pub record EdgeNamed (file : List ℕ) (o : Outline) (e : ℕ) : Type 0 where
  pub transition : (edge_of file o e).transition < o.transitions
  pub from : (edge_of file o e).from < o.nodes
  pub to : (edge_of file o e).to < o.nodes

-- the one double transition of a node: it is just, a double edge carries it from the node, and so does no single one
pub record DoubleTransition (file : List ℕ) (o : Outline) (node : ℕ) : Type 0 where
  pub transition : ℕ
  pub there : transition < o.transitions
  pub just : just_of file o transition ≡ true
  pub edge : ℕ
  pub edge_there : edge < o.edges
  pub edge_from : (edge_of file o edge).from ≡ node
  pub edge_double : (edge_of file o edge).double ≡ true
  pub edge_carries : (edge_of file o edge).transition ≡ transition
  pub only : (e : ℕ) → e < o.edges → (edge_of file o e).from ≡ node → (edge_of file o e).double ≡ true → (edge_of file o e).transition ≡ transition
  pub never_single : (e : ℕ) → e < o.edges → (edge_of file o e).from ≡ node → (edge_of file o e).transition ≡ transition
      → (edge_of file o e).double ≡ true

-- ---- what refusal 8 says
-- the own interval of the record at `at`, whose operands' intervals are in bounds: that of a constant, of a variable, or of a sum,
-- difference or product
pub data Own (file : List ℕ) (at : ℕ) : Interval → Type 0 where
  leaf : (signature_at file at).operands ≡ Zero → Own file at (leaf_of file at)
  join : (levels : ℕ) {a b : Sort} {mid end : ℕ} {j k : Interval} → (signature_at file at).operands ≡ Two a b → analysis_of file levels (at + 1) ≡ Ok (within j mid)
      → analysis_of file levels mid ≡ Ok (within k end) → Own file at (join_of (kind_at file at) j k)

-- it goes out of bounds
pub record Outside (file : List ℕ) (at : ℕ) : Type 0 where
  pub interval : Interval
  pub own : Own file at interval
  pub out : in_bounds interval ≡ false
