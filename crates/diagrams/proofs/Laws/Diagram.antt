-- What is known of a file with diagram g.
--     found_read                           reading found its parts
--     find_refuses                         or refused the file, with a number of 2 or more and a small place (C11.7)
--     diagram_loaded                       a file whose parts are found has a diagram
--     loaded_once                          and it is the only one
--     promised                             all that is promised of it
--     state_at_lem                             the state of a number, by the ranges (C4.4)
--     state_numbered, number_state         each number below that of the states has a state, and each state such a number (C4.5)
-- Assumes nothing.
use mathlib.Core.Path.{◌≡◌, refl, sym, ap, subst, ◌∙◌}
use mathlib.Core.Bool.{Bool, true, false, cond}
use mathlib.Core.List.{List}
use Prim.Native.Nat.{ℕ, ◌+◌, ◌/◌, ◌<◌, ◌≤◌}
use native.Mathlib.Omega.{arith}
use lib.ListN.{length, get_or}
use lib.Dec.{eqb}
use lib.IntN.{ℤ}
use Rattle.std.specs.declared.result.Result.TheVariants.{Ok, Err}
use Rattle.records.specs.Kind.{truth as truth_sort}
use Rattle.records.specs.Place.{place_of, places_of}
use Rattle.truths.proofs.Laws.Table.{table_at}
use Rattle.sections.specs.Section.{claim_at, property_at, phases_or, expressions_of, node_of}
use Rattle.sections.proofs.Laws.Property.{property_nodes, phases_counted, expressions_are}
use Rattle.shapes.specs.declared.Outline.{Outline}
use Rattle.shapes.specs.declared.Refusal.{Refusal}
use Rattle.shapes.specs.Refusal.{refused_number, refused_place}
use Rattle.intervals.proofs.Laws.Expression.{expression_within}
use Rattle.states.specs.Number.{state_of}
use Rattle.states.proofs.Laws.Number.{number_below, state_of_number, number_of_state, state_within}
use Rattle.ranges.proofs.Laws.Range.{ends_length, states_idle}
use Rattle.reading.specs.Read.{read_of}
use Rattle.records.specs.Record.{field_a}
use Rattle.reading.specs.Edge.{just_of as found_just}
use Rattle.reading.specs.Readable.{edge_of as found_edge}
use Rattle.reading.proofs.Laws.Refusal.{read_refuses}
use Rattle.reading.proofs.Laws.Readable as readable
use Rattle.evaluating.proofs.Laws.Readable as evaluable
use Rattle.diagrams.specs.declared.Diagram.{Diagram}
use Rattle.diagrams.specs.Diagram.{found_of, assertions_of, diagram_of, Loaded, State, state_at, state_number, edge_of}
use Rattle.diagrams.specs.Truth.{claimed_at, q_number, q_at}
use Rattle.diagrams.specs.System.{step_at, just_of}
use Rattle.diagrams.specs.Promise.{EdgeRight, DoubleTransition, TruthRight, Promise}

pub found_read : (file : List ℕ) (o : Outline) → found_of file ≡ Ok o → read_of file ≡ Ok o
unfolding found_of
found_read file o e = e

-- a refusal of reading: a number of 2 or more, and a place of 4,096 at most
pub find_refuses : (file : List ℕ) (refusal : Refusal) → found_of file ≡ Err refusal → (2 ≤ refused_number refusal) × (refused_place refusal ≤ 4096)
unfolding found_of
find_refuses file refusal e = let r = read_refuses file refusal e in (r.from, r.within)

pub diagram_loaded : (file : List ℕ) (o : Outline) → found_of file ≡ Ok o → Loaded file (diagram_of file o)
diagram_loaded file o e = record { outline = o; found = e; is = refl }

-- ---- of the parts that reading found
module _ (file : List ℕ) (o : Outline) (r : read_of file ≡ Ok o) where
  abbrev of : Diagram
  of = diagram_of file o

  -- the file has at most 4,096 records
  small : (at : ℕ) → at < length file / 8 → at ≤ 4096
  small at l = let m = readable.small file o r in omega arith

  -- ---- nodes and transitions
  node_at : (n : ℕ) (l : n < o.nodes) → get_or of.assertions n 0 ≡ (readable.node file o r n l).place + 1
  unfolding diagram_of assertions_of
  node_at n l =
      let m = (readable.nodes_within file o r).1 in
      let places = places_of (node_of file o.vars (property_at file o.property).ranks) o.nodes o.node in
      table_at 32 0 (λ i. get_or places i 0 + 1) o.nodes n (omega arith) l
      ∙ ap (λ (k : ℕ). k + 1) (readable.node_place file o r n l)

  assertion : (n : ℕ) → n < o.nodes → TruthRight file of (get_or of.assertions n 0)
  unfolding diagram_of
  assertion n l =
      let x = readable.node file o r n l in
      let w = expression_within file o.vars truth_sort (x.place + 1) x.mid x.assertion in
      rw (node_at n l)
      (record { small = small (x.place + 1) (omega (arith, w.0, w.1)); fits = λ state s. evaluable.assertion_fits file o r state s n l })

  step_at_lem : (t : ℕ) (l : t < o.transitions) → step_at of t ≡ (readable.transition file o r t l).place
  unfolding diagram_of
  step_at_lem t l = readable.transition_place file o r t l

  -- ---- the property's expressions
  claimed_at_lem : (i : ℕ) (l : i < expressions_of file o.property) → claimed_at file of i ≡ (readable.claimed file o r i l).place
  unfolding diagram_of claimed_at
  claimed_at_lem i l = ap place_of (readable.claimed file o r i l).reached

  claimed : (i : ℕ) → i < expressions_of file o.property → TruthRight file of (claimed_at file of i)
  unfolding diagram_of
  claimed i l =
      let x = readable.claimed file o r i l in
      let w = expression_within file o.vars truth_sort x.place x.end x.expression in
      rw (claimed_at_lem i l) (record { small = small x.place (omega (arith, w.0, w.1)); fits = λ state s. evaluable.claimed_fits file o r state s i l })

  -- there is one, and a q for each node
  some_phases : 1 ≤ phases_or file o.property 1
  some_phases = (property_nodes file o.property (readable.property_right file o r)).0

  q_there : (n : ℕ) → n < o.nodes → q_number (claim_at file o.property) n < expressions_of file o.property
  unfolding q_number
  q_there n l = by (property_at file o.property).phased refl
    where
      by : (b : Bool) → (property_at file o.property).phased ≡ b
          → cond (property_at file o.property).entry 1 0 + cond (property_at file o.property).phased n 0 < expressions_of file o.property
      by true is = rw (is, expressions_are file o.property, phases_counted file o.property 1 is) (omega (arith, readable.phases file o r is))
      by false is = rw (is, expressions_are file o.property) (omega (arith, some_phases))

  q : (n : ℕ) → n < o.nodes → TruthRight file of (q_at file of n)
  unfolding diagram_of q_at
  q n l = claimed (q_number (claim_at file o.property) n) (q_there n l)

  -- ---- edges
  just_is : (t : ℕ) → t < o.transitions → just_of file of t ≡ found_just file o t
  unfolding just_of
  just_is t l = ap (λ (k : ℕ). eqb (field_a file k) 1) (step_at_lem t l) ∙ sym (readable.just_place file o r t l)

  edge : (e : ℕ) → e < o.edges → EdgeRight file of e
  unfolding diagram_of edge_of
  edge e l =
      let n = readable.edge file o r e l in
      let a = readable.edge_leads file o r e l in
      let d = readable.edge_double file o r e l in
      record {
        transition = n.transition;
        from = n.from;
        to = n.to;
        leads = a.0;
        level = a.1;
        may_double = λ t. (d t).0;
        down = λ t. (d t).1;
        just = λ t. just_is (found_edge file o e).transition n.transition ∙ (d t).2;
      }

  new : ((k : ℕ) → get_or file k 0 < 256) → (i j : ℕ) → i < j → j < o.edges
      → (edge_of file of i).transition ≡ (edge_of file of j).transition → (edge_of file of i).from ≡ (edge_of file of j).from
      → (edge_of file of i).to ≡ (edge_of file of j).to → ⊥
  unfolding diagram_of edge_of
  new = readable.edge_new file o r

  doubled : (property_at file o.property).doubles ≡ true → (n : ℕ) → (property_at file o.property).from ≤ n → n < o.nodes → DoubleTransition file of n
  unfolding diagram_of edge_of
  doubled d n k l =
      let x = readable.double_transition file o r d n k l in
      record {
        transition = x.transition;
        there = x.there;
        just = just_is x.transition x.there ∙ x.just;
        edge = x.edge;
        edge_there = x.edge_there;
        edge_from = x.edge_from;
        edge_double = x.edge_double;
        edge_carries = x.edge_carries;
        only = x.only;
        never_single = x.never_single;
      }

  promise : Promise file of
  unfolding diagram_of
  promise =
      record {
        small = readable.small file o r;
        variables = readable.variables_within file o r;
        transitions = readable.transitions_within file o r;
        nodes = readable.nodes_within file o r;
        edges = (readable.edges_within file o r).0;
        known = readable.property_known file o r;
        ranges = evaluable.ranges file o r;
        long = ends_length file o.vars 2;
        counted = refl;
        states = evaluable.states_within file o r;
        idle = states_idle file o.vars;
        start = record { small = omega (arith, (readable.variables_within file o r).1); fits = evaluable.start_fits file o r };
        p = claimed 0 (rw (expressions_are file o.property) (omega (arith, some_phases)));
        q = q;
        assertion = assertion;
        step = λ t l state s. rw (step_at_lem t l) (evaluable.transition_fits file o r state s t l);
        edge_here = λ e l. let h = (readable.fits file o r).edges_here in omega arith;
        edge = edge;
        edge_new = new;
        doubled = doubled;
      }

pub loaded_once : (file : List ℕ) (g h : Diagram) → Loaded file g → Loaded file h → g ≡ h
loaded_once file g h a b = let same : a.outline ≡ b.outline = cc (a.found, b.found) in a.is ∙ ap (diagram_of file) same ∙ sym b.is

pub promised : (file : List ℕ) (g : Diagram) → Loaded file g → Promise file g
promised file g r = subst (Promise file) (sym r.is) (promise file r.outline (found_read file r.outline r.found))

-- ---- states by their numbers
pub state_at_lem : (g : Diagram) (n : ℕ) → state_at g n ≡ state_of g.low g.high n
unfolding state_at
state_at_lem g n = refl

module _ (file : List ℕ) (g : Diagram) (r : Loaded file g) where
  pub state_numbered : (n : ℕ) → n < g.states → State g (state_at g n) × (state_number g (state_at g n) ≡ n)
  unfolding state_at state_number
  state_numbered n l =
      let p = promised file g r in
      let k = rw p.counted at l in
      (state_within p.ranges n k, number_of_state p.ranges n k)

  pub number_state : (state : List ℤ) → State g state → (state_number g state < g.states) × (state_at g (state_number g state) ≡ state)
  unfolding state_at state_number
  number_state state s = (rw (promised file g r).counted (number_below s), state_of_number s)
