-- The edge rules, and the refusals 9 and 10 that enforce them.
use Rattle.std.specs.Prelude.{ℕ, ◌-◌, Bool, cond, not, ◌&&◌, ◌||◌, List, ltb, leb, eqb, Ok}
use Rattle.std.specs.Bool.{beq}
use Rattle.shapes.specs.declared.Refusal.{Refusal}
use Rattle.shapes.specs.declared.Outline.{Outline}
use Rattle.records.specs.Walk.{Walked, in_sequence, refuse_first}
use Rattle.records.specs.Record.{field_a}
use Rattle.shapes.specs.declared.Property.{Property}
use Rattle.shapes.specs.declared.Edge.{Edge}
use Rattle.shapes.specs.Edge.{double_from}
use Rattle.sections.specs.Section.{property_at, edge_at, transition_of}
use Rattle.records.specs.Place.{place_of}
use Rattle.truths.specs.Search.{any}

-- for C9.6: where transition t stands, and whether it is just
unfoldable pub transition_at : List ℕ → Outline → ℕ → ℕ
transition_at file o t = place_of (in_sequence (transition_of file o.vars) t o.transition)

unfoldable pub just_of : List ℕ → Outline → ℕ → Bool
just_of file o t = eqb (field_a file (transition_at file o t)) 1

-- C9.7, C9.8: of two edges from one node, those of two transitions are both double, or those of one are not both single or both double
unfoldable pub conflict_of : Edge → Edge → Bool
conflict_of a b =
    eqb a.from b.from && cond (eqb a.transition b.transition) (not (beq a.double b.double)) (a.double && b.double)

-- C9.2, C9.3: where the property asks it; an invariance doesn't (C9.1)
unfoldable pub leads_of : Property → Edge → Bool
leads_of p e = leb p.from e.from && (p.rising || leb e.to e.from)

-- C9.5: a double edge falls, where edges may not rise
unfoldable pub falls_of : Property → Edge → Bool
falls_of p e = p.rising || ltb e.to e.from

-- C9.5 to C9.8: where edges may be double: the edge at `at` conflicts with none before it, and is single, or falls and is just
unfoldable pub double_rule_of : List ℕ → Outline → ℕ → Bool
double_rule_of file o at =
    not (any (λ i. conflict_of (edge_at file i) (edge_at file at)) (at - o.edge) o.edge)
    && (not (edge_at file at).double || (falls_of (property_at file o.property) (edge_at file at) && just_of file o (edge_at file at).transition))

-- C9.1 to C9.8: the edge at `at` meets the rules, given those before it
unfoldable pub rule_of : List ℕ → Outline → ℕ → Bool
rule_of file o at =
    let p = property_at file o.property in
    leads_of p (edge_at file at) && cond p.doubles (double_rule_of file o at) (not (edge_at file at).double)

-- C10.9: each edge does
unfoldable pub rules_of : List ℕ → Outline → Walked
rules_of file o = refuse_first Refusal.Edge (rule_of file o) o.edges o.edge

-- C9.9: the node has a double edge
unfoldable pub doubled_of : List ℕ → Outline → ℕ → Bool
doubled_of file o node = any (λ i. double_from node (edge_at file i)) o.edges o.edge

-- C10.10: each node from 1 up does, where edges may be double
unfoldable pub doubles_of : List ℕ → Outline → Walked
doubles_of file o =
    let p = property_at file o.property in
    cond p.doubles (refuse_first Refusal.NoWayDown (doubled_of file o) (o.nodes - p.from) p.from) (Ok 0)
