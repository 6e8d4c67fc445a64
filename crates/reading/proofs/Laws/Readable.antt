-- What is known of a readable file: the page that the layers above cite. Each law follows from the answer of `read` alone.
--     whole, small                        the file is whole records, at most 4,096 of them (C10.2)
--     variables_within, transitions_within, nodes_within, phases, edges_within     its counts, within their limits (C1.6, C1.8, C1.13, C1.13, C1.14)
--     property_right, property_known      the property's fields are right; what the property claims is known
--     variable_range, states_within, states_end     no range is empty; the states are the product of the ranges, at most 1,048,576
--     start, transition, claimed, node    each expression walks to its end, with its intervals in bounds; no variable is assigned twice (C3.6)
--     transition_place, node_place        the tables of places have each transition's and each node's record
--     edge, edge_new, edge_leads, edge_double     each edge names what exists, is new and obeys its rules
--     double_transition                   where edges may be double, each node that they may lead from has exactly one double transition, and it is just
--     just_place                          whether a transition is just, by its record
-- Assumes nothing.
use mathlib.Core.Path.{◌≡◌, sym, ap, ◌∙◌}
use mathlib.Core.Bool.{true, false}
use mathlib.Core.List.{List}
use Prim.Native.Nat.{ℕ, ◌+◌, ◌/◌, ◌%◌, ◌<◌, ◌≤◌}
use native.Mathlib.Omega.{arith}
use lib.Dec.{eqb}
use lib.ListN.{length, get_or}
use lib.Signed.{◌≤ℤ◌}
use Rattle.std.specs.declared.result.Result.TheVariants.{Ok}
use Rattle.records.specs.Walk.{Walked}
use Rattle.shapes.specs.declared.Outline.{Outline}
use Rattle.records.specs.Record.{field_a, field_b, value_b, value_c}
use Rattle.sections.specs.Section.{property_at, property_fields, expressions_of, transition_of, node_of}
use Rattle.records.specs.Place.{place_of, places_of}
use Rattle.records.proofs.Laws.Place.{places_nth}
use Rattle.sections.proofs.Laws.Property.{property_known as known, phases_counted}
use Rattle.parsing.proofs.Laws.Outline.{Parses}
use Rattle.parsing.proofs.Laws.Parsed as parsed
use Rattle.ranges.specs.Range.{lows_of, highs_of}
use Rattle.states.specs.Number.{count_of}
use Rattle.reading.specs.States.{states_of}
use Rattle.reading.specs.Edge.{transition_at, just_of}
use Rattle.reading.specs.Fits.{OutlineFits}
use Rattle.reading.specs.Read.{read_of}
use Rattle.reading.specs.Readable.{Start, Transition, PropertyExpression, Node, edge_of, EdgeNamed, DoubleTransition}
use Rattle.reading.proofs.Laws.Fits as fitting
use Rattle.reading.proofs.Laws.Stage.{Stages, stages_of}
use Rattle.reading.proofs.Laws.States.{states_most}
use Rattle.reading.proofs.Laws.Scan as scan
use Rattle.reading.proofs.Laws.Edge as edges

module _ (file : List ℕ) (o : Outline) (r : read_of file ≡ Ok o) where
  stages : Stages file o
  stages = stages_of file o r

  parses : Parses file o
  parses = stages.parsed

  -- ---- the file and its counts
  pub whole : length file % 8 ≡ 0
  whole = parses.whole

  pub small : length file ≤ 32768
  small = parses.small

  -- the outline stays within the file
  pub fits : OutlineFits file o
  fits = fitting.fits file o parses

  pub variables_within : (1 ≤ o.vars) × (o.vars ≤ 12)
  variables_within = (parses.some, parsed.variables_most file o parses)

  pub transitions_within : o.transitions ≤ 32
  transitions_within = parsed.transitions_most file o parses

  pub nodes_within : (1 ≤ o.nodes) × (o.nodes ≤ 32)
  nodes_within = (parsed.nodes_least file o parses, parsed.nodes_most file o parses)

  -- a wait-for has as many nodes as phases
  pub phases : (property_at file o.property).phased ≡ true → o.nodes ≡ field_b file o.property
  phases w =
      let b = field_b file o.property in
      let least : b ≤ o.nodes = rw (phases_counted file o.property 1 w) at parses.enough in
      let most = parsed.nodes_allowed file o parses in
      let is = phases_counted file o.property 32 w in
      omega arith

  pub edges_within : (o.edges ≤ 512) × (length file / 8 ≡ o.edge + o.edges)
  edges_within = (parsed.edges_most file o parses, parsed.edges_end file o parses)

  pub property_right : property_fields file o.property ≡ true
  property_right = parses.property_right

  pub property_known : (property_at file o.property).known ≡ true
  property_known = known file o.property property_right

  -- ---- ranges and states
  pub variable_range : (v : ℕ) → v < o.vars → value_b file v ≤ℤ value_c file v
  variable_range = parsed.variable_range file o parses

  abbrev states : ℕ
  states = count_of (lows_of file o.vars) (highs_of file o.vars)

  states_counted : (states ≡ stages.states.end) × (1 ≤ stages.states.end) × (stages.states.end ≤ 1048576)
  states_counted = states_most file o.vars stages.states.end variables_within.1 stages.states.is

  pub states_within : (1 ≤ states) × (states ≤ 1048576)
  states_within = rw states_counted.0 (states_counted.1, states_counted.2)

  -- so that is what `states` answers
  pub states_end : states_of file o.vars 0 1 ≡ Ok states
  states_end = stages.states.is ∙ ap Ok (sym states_counted.0)

  -- ---- expressions
  pub start : Start file o
  start = scan.start_scanned file o stages

  pub transition : (t : ℕ) → t < o.transitions → Transition file o t
  transition = scan.transition_scanned file o stages

  pub claimed : (i : ℕ) → i < expressions_of file o.property → PropertyExpression file o i
  claimed = scan.claimed_scanned file o stages

  pub node : (n : ℕ) → n < o.nodes → Node file o n
  node = scan.node_scanned file o stages

  -- the tables of places have them
  pub transition_place : (t : ℕ) (l : t < o.transitions)
      → get_or (places_of (transition_of file o.vars) o.transitions o.transition) t 0 ≡ (transition t l).place
  transition_place t l =
      let m = transitions_within in
      places_nth (transition_of file o.vars) o.transitions o.transition t (omega arith) l ∙ ap place_of (transition t l).reached

  pub node_place : (n : ℕ) (l : n < o.nodes)
      → get_or (places_of (node_of file o.vars (property_at file o.property).ranks) o.nodes o.node) n 0 ≡ (node n l).place
  node_place n l =
      let m = nodes_within.1 in
      places_nth (node_of file o.vars (property_at file o.property).ranks) o.nodes o.node n (omega arith) l ∙ ap place_of (node n l).reached

  -- ---- edges
  pub edge : (e : ℕ) → e < o.edges → EdgeNamed file o e
  edge = edges.edge_names file o stages

  pub edge_new : ((k : ℕ) → get_or file k 0 < 256) → (i j : ℕ) → i < j → j < o.edges
      → (edge_of file o i).transition ≡ (edge_of file o j).transition → (edge_of file o i).from ≡ (edge_of file o j).from
      → (edge_of file o i).to ≡ (edge_of file o j).to → ⊥
  edge_new = parsed.edge_new file o parses

  pub edge_leads : (e : ℕ) → e < o.edges
      → ((property_at file o.property).from ≤ (edge_of file o e).from)
      × ((property_at file o.property).rising ≡ false → (edge_of file o e).to ≤ (edge_of file o e).from)
  edge_leads = edges.edge_leads file o stages

  pub edge_double : (e : ℕ) → e < o.edges → (edge_of file o e).double ≡ true
      → ((property_at file o.property).doubles ≡ true) × ((property_at file o.property).rising ≡ false → (edge_of file o e).to < (edge_of file o e).from)
      × (just_of file o (edge_of file o e).transition ≡ true)
  edge_double = edges.edge_double file o stages

  pub double_transition : (property_at file o.property).doubles ≡ true
      → (n : ℕ) → (property_at file o.property).from ≤ n → n < o.nodes → DoubleTransition file o n
  double_transition = edges.double_transition file o stages

  -- whether a transition is just, by its record
  pub just_place : (t : ℕ) (l : t < o.transitions) → just_of file o t ≡ eqb (field_a file (transition t l).place) 1
  unfolding just_of transition_at
  just_place t l = ap (λ (w : Walked). eqb (field_a file (place_of w)) 1) (transition t l).reached
