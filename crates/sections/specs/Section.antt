-- The sections of a file: at each record refusals 3 to 6 in this order, in expressions 19 too (C11.2).
use Rattle.std.specs.Prelude.{ℕ, zero, suc, ◌+◌, ◌*◌, ◌-◌, Bool, cond, ◌&&◌, ◌||◌, List, get_or, set, replicate, ltb, leb, eqb, Result, Ok, Err}
use Rattle.std.specs.Int.Signed.{le_z}
use Rattle.shapes.specs.declared.Refusal.{Refusal}
use Rattle.shapes.specs.Refusal.{and_then}
use Rattle.sections.specs.declared.Section.{Section}
use Rattle.records.specs.Record.{field_a, field_b, field_c, field_d, value_b, value_c, kind_is, zeros_of, same_bytes}
use Rattle.truths.specs.Search.{any}
use Rattle.shapes.specs.declared.Claim.{Claim}
use Rattle.shapes.specs.declared.Property.{Property}
use Rattle.shapes.specs.declared.Edge.{Edge}
use Rattle.shapes.specs.Property.{claim_of, property_of}
use Rattle.records.specs.Kind.{number, truth}
use Rattle.records.specs.Walk.{Walked, in_sequence, walk_of, truth_of}

-- ---- the fields of a section's records, or refusal 4 (C10.4); those without a meaning are zero (C1.4)
-- C1.6: a variable's, b at most c
unfoldable pub variable_fields : List ℕ → ℕ → Bool
variable_fields file at = zeros_of file (8 * at + 1) 1 && zeros_of file (8 * at + 6) 2 && le_z (value_b file at) (value_c file at)

-- C1.4: the start's and a node's: none
abbrev pub no_fields : List ℕ → ℕ → Bool
no_fields file at = zeros_of file (8 * at + 1) 7

-- C1.8: a transition's
unfoldable pub transition_fields : List ℕ → ℕ → Bool
transition_fields file at = leb (field_a file at) 1 && zeros_of file (8 * at + 2) 6

-- C1.9, C1.15: an assignment's
unfoldable pub assignment_fields : List ℕ → ℕ → ℕ → Bool
assignment_fields file vars at = ltb (field_a file at) vars && zeros_of file (8 * at + 2) 6

-- C1.15, C1.16: a pick's, b at most c, both in the range of its variable, whose record is that of the variable's number
unfoldable pub pick_fields : List ℕ → ℕ → ℕ → Bool
pick_fields file vars at =
    ltb (field_a file at) vars && zeros_of file (8 * at + 6) 2 && le_z (value_b file at) (value_c file at)
    && le_z (value_b file (field_a file at)) (value_b file at) && le_z (value_c file at) (value_c file (field_a file at))

-- for C1.10: what a property claims, and the row of that
abbrev pub claim_at : List ℕ → ℕ → Claim
claim_at file at = claim_of (field_a file at)

abbrev pub property_at : List ℕ → ℕ → Property
property_at file at = property_of (claim_at file at)

-- C1.4, C1.11, C11.5: b counts phases, or is zero
unfoldable pub phases_fit : Bool → ℕ → Bool
phases_fit phased b = cond phased (leb 1 b && leb b 32) (eqb b 0)

-- C1.4, C1.10, C1.11: a property's
unfoldable pub property_fields : List ℕ → ℕ → Bool
property_fields file at = (property_at file at).known && phases_fit (property_at file at).phased (field_b file at) && zeros_of file (8 * at + 4) 4

-- C1.14, C1.15: an edge's
unfoldable pub edge_fields : List ℕ → ℕ → ℕ → ℕ → Bool
edge_fields file transitions nodes at =
    ltb (field_a file at) transitions && ltb (field_b file at) nodes && ltb (field_c file at) nodes && leb (field_d file at) 1 && zeros_of file (8 * at + 7) 1

-- C1.14: the edge itself
unfoldable pub edge_at : List ℕ → ℕ → Edge
edge_at file at = record { transition = field_a file at; from = field_b file at; to = field_c file at; double = eqb (field_d file at) 1 }

-- ---- sections: kinds (3), limits (5), repetitions (6)
-- for C1.5: n items, and the record behind them
abbrev pub items : ℕ → ℕ → Section
items n end = record { count = n; end = end }

-- C1.5, C10.4, C10.5, C11.3: items that begin with a record of `kind`, as long as there is one: n before `at`, and at most `left` more. `fields` tests an
-- item's first record, and `item` walks the item
unfoldable pub items_of : List ℕ → ℕ → (ℕ → Bool) → (ℕ → Walked) → ℕ → ℕ → ℕ → Result Section Refusal
items_of file kind fields item zero n at =
    cond (kind_is file kind at) (cond (fields at) (Err (Refusal.Limit at)) (Err (Refusal.Field at))) (Ok (items n at))
items_of file kind fields item (suc left) n at =
    cond (kind_is file kind at)
    (cond (fields at) (and_then (item at) (items_of file kind fields item left (n + 1))) (Err (Refusal.Field at)))
    (Ok (items n at))

-- C1.6: up to 12
unfoldable pub variables_of : List ℕ → Result Section Refusal
variables_of file = items_of file 0x01 (variable_fields file) (λ at. Ok (at + 1)) 12 0 0

-- ---- the updates of a transition: its assignments and picks
-- C1.8: one of them stands at `at`
unfoldable pub is_update : List ℕ → ℕ → Bool
is_update file at = kind_is file 0x04 at || kind_is file 0x08 at

-- C1.9, C1.16: its fields
unfoldable pub update_fields : List ℕ → ℕ → ℕ → Bool
update_fields file vars at = cond (kind_is file 0x08 at) (pick_fields file vars at) (assignment_fields file vars at)

-- C1.9, C1.16: behind an assignment's record stands its value, behind a pick's nothing
unfoldable pub update_of : List ℕ → ℕ → ℕ → Walked
update_of file vars at = cond (kind_is file 0x08 at) (Ok (at + 1)) (walk_of file vars 16 number (at + 1))

-- C1.8, C1.17, C10.6: all of them. `marks` has 1 at each variable that was set; after 12 of them the next one repeats one
unfoldable pub updates_of : List ℕ → ℕ → ℕ → List ℕ → ℕ → Walked
updates_of file vars zero marks at =
    cond (is_update file at) (cond (update_fields file vars at) (Err (Refusal.Repetition at)) (Err (Refusal.Field at))) (Ok at)
updates_of file vars (suc left) marks at =
    cond (is_update file at)
    (cond (update_fields file vars at)
    (cond (eqb (get_or marks (field_a file at) 0) 0)
    (and_then (update_of file vars at) (updates_of file vars left (set marks (field_a file at) 1)))
    (Err (Refusal.Repetition at)))
    (Err (Refusal.Field at)))
    (Ok at)

-- C1.8: guard, then updates
unfoldable pub transition_of : List ℕ → ℕ → ℕ → Walked
transition_of file vars at = and_then (walk_of file vars 16 truth (at + 1)) (updates_of file vars 12 (replicate 12 0))

-- C1.8: up to 32
unfoldable pub transitions_of : List ℕ → ℕ → ℕ → Result Section Refusal
transitions_of file vars at = items_of file 0x03 (transition_fields file) (transition_of file vars) 32 0 at

-- C1.13: as many nodes as the property at `at` counts phases, or else the limit
unfoldable pub phases_or : List ℕ → ℕ → ℕ → ℕ
phases_or file at limit = cond (property_at file at).phased (field_b file at) limit

-- C1.12: how many truths follow the property: p where there is one, and the q's
unfoldable pub expressions_of : List ℕ → ℕ → ℕ
expressions_of file at = cond (property_at file at).entry 1 0 + phases_or file at 1

-- C1.13: its assertion; then its ranks, of which no property has any
abbrev pub node_of : List ℕ → ℕ → ℕ → ℕ → Walked
node_of file vars ranks at = and_then (truth_of file vars (at + 1)) (in_sequence (walk_of file vars 16 number) ranks)

-- C1.13: up to `most`
unfoldable pub nodes_of : List ℕ → ℕ → ℕ → ℕ → ℕ → Result Section Refusal
nodes_of file vars ranks most at = items_of file 0x06 (no_fields file) (node_of file vars ranks) most 0 at

-- C10.6: one of the n edges from `first` on has the a, b and c of the edge at `at`
unfoldable pub repeated_of : List ℕ → ℕ → ℕ → ℕ → Bool
repeated_of file at first n = any (λ e. same_bytes file (8 * e + 1) (8 * at + 1) 5) n first

-- C10.6: an edge repeats none of those before it; `first` is the first edge's record
abbrev pub edge_of : List ℕ → ℕ → ℕ → Walked
edge_of file first at = cond (repeated_of file at first (at - first)) (Err (Refusal.Repetition at)) (Ok (at + 1))

-- C1.14: up to 512
unfoldable pub edges_of : List ℕ → ℕ → ℕ → ℕ → Result Section Refusal
edges_of file transitions nodes first = items_of file 0x07 (edge_fields file transitions nodes) (edge_of file first) 512 0 first
