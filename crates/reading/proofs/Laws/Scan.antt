-- The scan of refusal 8 passes every expression of a readable file. It is followed from the file's first record to its last, section by section: where
-- it comes to an expression that walks to its end, the analysis passed it, and the scan goes on behind it.
--     start_scanned, transition_scanned, claimed_scanned, node_scanned     the start, each transition, each expression of the property, each node
-- Assumes nothing.
use mathlib.Core.Path.{◌≡◌, sym, ap, ◌∙◌}
use mathlib.Core.Bool.{true, false}
use mathlib.Core.List.{List, [], ◌∷◌}
use Prim.Native.Nat.{ℕ, ◌+◌, ◌<◌, ◌≤◌}
use native.Mathlib.Omega.{arith}
use lib.ListN.{length, get_or, set, replicate, length-set}
use lib.Seq.{get_or-set_same, get_or-set_other}
use Rattle.std.specs.declared.result.Result.TheVariants.{Ok}
use Rattle.integers.specs.declared.Interval.{Interval}
use Rattle.shapes.specs.declared.Outline.{Outline}
use Rattle.records.specs.Record.{field_a, kind_is}
use Rattle.std.specs.declared.option.Option.TheVariants.{None}
use Rattle.records.specs.declared.kinds.Sort.{Sort}
use Rattle.records.specs.Kind.{number, truth, within, signature_of}
use Rattle.records.specs.Walk.{walk_of, truth_of}
use Rattle.sections.specs.Section.{property_at, is_update, update_fields, update_of, transition_of, expressions_of, phases_or}
use Rattle.records.proofs.Laws.Kind.{head_none}
use Rattle.truths.proofs.Laws.Truth.{by-test}
use Rattle.sections.proofs.Laws.Section.{update_assigns, update_pick, update_named, pick_ends, assignment_ends, updates_induct}
use Rattle.sections.proofs.Laws.Section.{sequence_reach, transition_just, transition_opens, node_opens}
use Rattle.sections.proofs.Laws.Counted.{transitions_reach, nodes_reach}
use Rattle.parsing.proofs.Laws.Parsed.{variables_most}
use Rattle.parsing.proofs.Laws.Through as through
use Rattle.intervals.specs.Expression.{Expression}
use Rattle.reading.specs.Readable.{Start, Apart, Update, Updates, Transition, PropertyExpression, Node}
use Rattle.intervals.proofs.Laws.Scan.{Scan, Tried, scan_begins, scan_head, scan_expression}
use Rattle.reading.proofs.Laws.Stage.{Stages}

-- ---- the scan at an expression
-- an expression that the scan passed on its way to the end, and the scan behind it
record Passing (file : List ℕ) (last vars : ℕ) (want : Sort) (at end : ℕ) : Type 0 where
  interval : Interval
  expression : Expression file vars 16 want at end interval
  rest : Scan file (Ok last) end

-- an expression of a sort, where the scan has come to it
module _ (file : List ℕ) (last vars : ℕ) (want : Sort) (at end : ℕ) (w : walk_of file vars 16 want at ≡ Ok end) where
  passing_by : Tried file (Ok last) at end → Passing file last vars want at end
  passing_by (Tried.passed i within rest) = record { interval = i; expression = record { walks = w; bounds = within }; rest = rest }
  passing_by (Tried.refused place out e) = let z : ◌≡◌ {A = ℕ} 0 1 = cc in absurd (omega arith)

  passing : Scan file (Ok last) at → Passing file last vars want at end
  passing s = passing_by (scan_expression file (Ok last) vars want at end w s)

-- ---- a transition's updates
-- none of the variables is marked
abbrev Unmarked : List ℕ → List ℕ → Type 0
Unmarked marks [] = Unit {0}
Unmarked marks (v ∷ vs) = (get_or marks v 0 ≡ 0) × Unmarked marks vs

-- those that are not marked once a is are apart from it
apart : (marks : List ℕ) (a : ℕ) → a < length marks → (vs : List ℕ) → Unmarked (set marks a 1) vs → Apart a vs × Unmarked marks vs
apart marks a l [] u = (tt, tt)
apart marks a l (v ∷ vs) u =
    let r = apart marks a l vs u.1 in
    let marked : get_or (set marks a 1) a 0 ≡ 1 = get_or-set_same marks a 1 0 l in
    let other : a ≡ v → ⊥ = λ e. let z : ◌≡◌ {A = ℕ} 0 1 = sym u.0 ∙ ap (λ (x : ℕ). get_or (set marks a 1) x 0) (sym e) ∙ marked in omega arith in
    ((other, r.0), (sym (get_or-set_other marks a v 1 0 (λ e. other (sym e))) ∙ u.0, r.1))

-- an update that the scan passed, and the scan behind it
record PassingUpdate (file : List ℕ) (last vars at end : ℕ) : Type 0 where
  update : Update file vars at end
  rest : Scan file (Ok last) end

passing_update : (file : List ℕ) (last vars at end : ℕ) → is_update file at ≡ true → update_fields file vars at ≡ true → update_of file vars at ≡ Ok end
    → Scan file (Ok last) at → PassingUpdate file last vars at end
passing_update file last vars at end u f w s = by-test (kind_is file 0x08 at) (λ b. PassingUpdate file last vars at end) pick value
  where
    pick : kind_is file 0x08 at ≡ true → PassingUpdate file last vars at end
    pick k =
        let r = update_pick file vars at k f in
        rw (pick_ends file vars at k w)
        (record { update = Update.picks k r.ordered r.low r.high; rest = scan_head file (Ok last) 0x08 at (head_none (omega arith)) k s })

    value : kind_is file 0x08 at ≡ false → PassingUpdate file last vars at end
    value k =
        let head = scan_head file (Ok last) 0x04 at (head_none (omega arith)) (update_assigns file vars at u k) s in
        let v = passing file last vars number (at + 1) end (assignment_ends file vars at k w) head in
        record { update = Update.assigns k v.expression; rest = v.rest }

module _ (file : List ℕ) (last vars end : ℕ) where
  record Updated (marks : List ℕ) (at : ℕ) : Type 0 where
    variables : List ℕ
    updates : Updates file vars end at variables
    unmarked : Unmarked marks variables

  updated_none : (marks : List ℕ) → is_update file end ≡ false → Updated marks end
  updated_none marks k = record { variables = []; updates = Updates.none k; unmarked = tt }

  updated_more : (marks : List ℕ) (at x : ℕ) → is_update file at ≡ true → update_fields file vars at ≡ true → get_or marks (field_a file at) 0 ≡ 0
      → update_of file vars at ≡ Ok x
      → (vars ≤ length (set marks (field_a file at) 1) → Scan file (Ok last) x → Updated (set marks (field_a file at) 1) x)
      → vars ≤ length marks → Scan file (Ok last) at → Updated marks at
  updated_more marks at x k f free w rest m s =
      let v = passing_update file last vars at x k f w s in
      let r = rest (rw length-set m) v.rest in
      let below = update_named file vars at f in
      let a = apart marks (field_a file at) (omega arith) r.variables r.unmarked in
      record {
        variables = field_a file at ∷ r.variables;
        updates = Updates.more k below v.update r.updates a.0;
        unmarked = (free, a.1);
      }

  -- ---- a transition: its guard, then its updates
  record Guarded (at : ℕ) : Type 0 where
    behind : ℕ
    interval : Interval
    guard : Expression file vars 16 truth (at + 1) behind interval
    updated : Updated (replicate 12 0) behind

  guarded : vars ≤ 12 → (at : ℕ) → kind_is file 0x03 at ≡ true → transition_of file vars at ≡ Ok end → Scan file (Ok last) at
      → Guarded at
  guarded m at k e s =
      let t = transition_opens file vars end at e in
      let head = scan_head file (Ok last) 0x03 at (head_none (omega arith)) k s in
      let g = passing file last vars truth (at + 1) t.place t.guard head in
      let updated = updates_induct file vars end (λ marks i. vars ≤ length marks → Scan file (Ok last) i → Updated marks i)
      (λ marks k l s. updated_none marks k) updated_more 12 (replicate 12 0) t.place t.updates m g.rest in
      record { behind = t.place; interval = g.interval; guard = g.expression; updated = updated }

-- ---- the expressions of a readable file
module _ (file : List ℕ) (o : Outline) (r : Stages file o) where
  abbrev last : ℕ
  last = r.intervals.end

  -- the scan goes on to the end from `at`
  abbrev Onward : ℕ → Type 0
  Onward at = Scan file (Ok last) at

  onward_first : Onward 0
  onward_first = scan_begins file (Ok last) r.intervals.is

  onward_head : (kind at : ℕ) → (signature_of kind).sort ≡ None → kind_is file kind at ≡ true → Onward at → Onward (at + 1)
  onward_head = scan_head file (Ok last)

  onward_expression : (want : Sort) (at end : ℕ) → walk_of file o.vars 16 want at ≡ Ok end → Onward at → Onward end
  onward_expression want at end w s = (passing file last o.vars want at end w s).rest

  -- a truth behind a record that begins an item
  item_passing : (kind at end : ℕ) → (signature_of kind).sort ≡ None → kind_is file kind at ≡ true
      → walk_of file o.vars 16 truth (at + 1) ≡ Ok end → Onward at → Passing file last o.vars truth (at + 1) end
  item_passing kind at end u k w s = passing file last o.vars truth (at + 1) end w (onward_head kind at u k s)

  pub start_scanned : Start file o
  start_scanned =
      let s = through.at_start file o r.parsed Onward onward_head onward_expression onward_first in
      let p = item_passing 0x02 o.vars o.transition (head_none (omega arith)) r.parsed.start_named r.parsed.start s in
      record { interval = p.interval; expression = p.expression }

  pub transition_scanned : (t : ℕ) → t < o.transitions → Transition file o t
  transition_scanned t l =
      let s = through.at_transitions file o r.parsed Onward onward_head onward_expression onward_first in
      let n = transitions_reach file o.vars o.transition o.transitions o.property r.parsed.transitions Onward
      (λ i x k e s. through.transition_through file o.vars Onward onward_head onward_expression x i k e s) s t l in
      let g = guarded file last o.vars n.end (variables_most file o r.parsed) n.place n.named n.ends n.holds in
      record {
        place = n.place;
        behind = g.behind;
        end = n.end;
        reached = n.reached;
        named = n.named;
        just_or_not = transition_just file n.place n.right;
        interval = g.interval;
        guard = g.guard;
        sets = g.updated.variables;
        updates = g.updated.updates;
      }

  pub claimed_scanned : (i : ℕ) → i < expressions_of file o.property → PropertyExpression file o i
  claimed_scanned i l =
      let s = through.at_claims file o r.parsed Onward onward_head onward_expression onward_first in
      let n = sequence_reach (truth_of file o.vars) Onward (λ x y w s. onward_expression truth x y w s)
      o.node (expressions_of file o.property) (o.property + 1) r.parsed.truths s i l in
      let p = passing file last o.vars truth n.place n.behind n.ends n.holds in
      record { place = n.place; end = n.behind; reached = n.reached; interval = p.interval; expression = p.expression }

  pub node_scanned : (n : ℕ) → n < o.nodes → Node file o n
  node_scanned n l =
      let s = through.at_nodes file o r.parsed Onward onward_head onward_expression onward_first in
      let ranks = (property_at file o.property).ranks in
      let h = nodes_reach file o.vars ranks (phases_or file o.property 32) o.node o.nodes o.edge r.parsed.nodes Onward
      (λ i x k e s. through.node_through file o.vars Onward onward_head onward_expression ranks x i k e s) s n l in
      let a = node_opens file o.vars ranks h.place h.end h.ends in
      let p = item_passing 0x06 h.place a.mid (head_none (omega arith)) h.named a.first h.holds in
      record {
        place = h.place;
        mid = a.mid;
        end = h.end;
        reached = h.reached;
        named = h.named;
        interval = p.interval;
        assertion = p.expression;
        ranks = a.rest;
      }
