-- A whole file, section by section: the first refusal of 2 to 6 and 19, or the outline.
use Rattle.std.specs.Prelude.{ℕ, ◌+◌, ◌/◌, ◌%◌, cond, ◌&&◌, List, length, leb, eqb, Result, Ok, Err}
use Rattle.shapes.specs.declared.Outline.{Outline}
use Rattle.shapes.specs.declared.Refusal.{Refusal}
use Rattle.shapes.specs.Refusal.{and_then}
use Rattle.records.specs.Record.{kind_is}
use Rattle.records.specs.Walk.{in_sequence, truth_of}
use Rattle.sections.specs.Section.{no_fields, property_at, property_fields, variables_of, transitions_of, expressions_of, phases_or, nodes_of, edges_of}

-- for C11.6: where the parts of a file stand, or the first refusal that meets it
abbrev pub Reading : Type 0
Reading = Result Outline Refusal

-- C1.5, C10.3, C11.4: the nodes, from `node` on, enough of them; then the edges, to the file's end: any other record behind them is 3
unfoldable pub nodes_parsed : List ℕ → ℕ → ℕ → ℕ → ℕ → ℕ → Reading
nodes_parsed file vars transition transitions property node =
    and_then (nodes_of file vars (property_at file property).ranks (phases_or file property 32) node) λ nodes.
    cond (leb (phases_or file property 1) nodes.count)
    (and_then (edges_of file transitions nodes.count nodes.end) λ edges.
    cond (eqb edges.end (length file / 8))
    (Ok
    (record {
      vars = vars;
      transition = transition;
      transitions = transitions;
      property = property;
      node = node;
      nodes = nodes.count;
      edge = nodes.end;
      edges = edges.count;
    }))
    (Err (Refusal.Kind edges.end)))
    (Err (Refusal.Kind nodes.end))

-- C1.10, C10.3, C10.4: the property with its truths (C1.12); then the nodes
unfoldable pub property_parsed : List ℕ → ℕ → ℕ → ℕ → ℕ → Reading
property_parsed file vars transition transitions property =
    cond (kind_is file 0x05 property)
    (cond (property_fields file property)
    (and_then (in_sequence (truth_of file vars) (expressions_of file property) (property + 1)) (nodes_parsed file vars transition transitions property))
    (Err (Refusal.Field property)))
    (Err (Refusal.Kind property))

-- for C1.5: the transitions, from `transition` on; then the property
unfoldable pub transitions_parsed : List ℕ → ℕ → ℕ → Reading
transitions_parsed file vars transition = and_then (transitions_of file vars transition) λ section. property_parsed file vars transition section.count section.end

-- C1.7, C10.3, C10.4, C11.4: the start, behind one variable or more; then the transitions
unfoldable pub start_parsed : List ℕ → ℕ → ℕ → Reading
start_parsed file vars at =
    cond (leb 1 vars && kind_is file 0x02 at)
    (cond (no_fields file at) (and_then (truth_of file vars (at + 1)) (transitions_parsed file vars)) (Err (Refusal.Field at)))
    (Err (Refusal.Kind at))

-- C10.2, C1.5: the length; then the variables, and all that follows
unfoldable pub parsed_of : List ℕ → Reading
parsed_of file =
    cond (eqb (length file % 8) 0 && leb (length file) 32768)
    (and_then (variables_of file) λ section. start_parsed file section.count section.end)
    (Err Refusal.Length)
