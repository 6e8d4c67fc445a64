-- What a section that was counted holds, and where its items stand.
--     items_most         no more items than it may
--     items_single       where items of one record each end
--     single_nth         such an item passed its tests
--     items_reach, sequence_reach         each item and each part: where it is, by those before it, that it passed its tests, and what holds there
--     items_through, sequence_through     what holds at the first holds behind the last
--     transition_just, update_named       what the first record of a transition says, and that of an update names
--     update_assigns                      an update that is no pick is an assignment
--     update_pick                         the values of a pick are in order, and in the range of its variable (C1.16)
--     pick_one, pick_ends, assignment_ends    where an update ends
--     update_here, update_bound           its record is in the file; it ends behind it and within the file
--     updates_induct, updates_through     by induction over a transition's updates; so what holds at the first holds behind the last
--     transition_opens                    a transition's guard and its updates
--     transition_bound, transitions_bound     each ends behind its first record and within the file
--     node_opens         a node's assertion and its ranks
--     node_bound         it ends behind its first record and within the file
--     edge_opens         an edge repeats none, and is one record
-- Assumes nothing.
use mathlib.Core.Path.{◌≡◌, refl, sym, ap, subst, ◌∙◌}
use mathlib.Core.Logic.{⊎_elim}
use mathlib.Core.Bool.{Bool, true, false, cond, and-eq-true_iff, false≢true}
use mathlib.Core.List.{List}
use Prim.Native.Nat.{ℕ, zero, suc, ◌+◌, ◌-◌, ◌*◌, ◌/◌, ◌<◌, ◌≤◌}
use native.Mathlib.Omega.{arith}
use lib.ListN.{length, get_or, set, replicate}
use borrow.Author.Tests.{ltb-true, leb-true, eqb-true}
use lib.Dec.{ltb, leb, eqb}
use lib.Signed.{le_z, ◌≤ℤ◌}
use Rattle.std.specs.declared.result.Result.TheVariants.{Ok, Err}
use Rattle.std.specs.declared.result.Result.{Result}
use Rattle.shapes.specs.declared.Refusal.{Refusal}
use Rattle.shapes.specs.Refusal.{and_then}
use Rattle.truths.proofs.Laws.Truth.{by-test, or_cases}
use Rattle.integers.proofs.Laws.Parts.{ints}
use Rattle.sections.specs.declared.Section.{Section}
use Rattle.records.specs.Record.{field_a, value_b, value_c, kind_is, zeros_of}
use Rattle.records.specs.Kind.{number, truth}
use Rattle.records.specs.Walk.{Walked, in_sequence, walk_of, truth_of}
use Rattle.sections.specs.Section.{items, transition_fields, assignment_fields, pick_fields, items_of, is_update, update_fields, update_of, updates_of}
use Rattle.sections.specs.Section.{transition_of, node_of, repeated_of, edge_of}
use Rattle.records.proofs.Laws.Record.{kind_is_lem}
use Rattle.records.proofs.Laws.Walk.{First, then_ends, walk_bound, sequence_induct, sequence_bound, sequence_none, sequence_next}

-- ---- items
module _ (file : List ℕ) (kind : ℕ) (fields : ℕ → Bool) (item : ℕ → Walked) where
  -- from `at` on, with n items before it and at most `left` more, the section has m items in all and ends at `end`
  abbrev Counted : ℕ → ℕ → ℕ → ℕ → ℕ → Type 0
  Counted m end left n at = items_of file kind fields item left n at ≡ Ok (items m end)

  -- by induction over the items: Q is shown behind the last item, and carried back past each item that passed its tests
  module _ (m end : ℕ) (Q : ℕ → ℕ → ℕ → Type 0) (base : (left : ℕ) → Q left m end)
      (back : (left n at x : ℕ) → kind_is file kind at ≡ true → fields at ≡ true → item at ≡ Ok x → Q left (n + 1) x → Q (suc left) n at) where
    item_none : (left n at : ℕ) → ◌≡◌ {A = Result Section Refusal} (Ok (items n at)) (Ok (items m end)) → Q left n at
    item_none left n at e =
        let s : items n at ≡ items m end = cc in
        let x : n ≡ m = ap (λ (i : Section). i.count) s in
        let y : at ≡ end = ap (λ (i : Section). i.end) s in
        rw (x, y) (base left)

    item_over : (n at : ℕ) (k f : Bool) → cond k (cond f (Err (Refusal.Limit at)) (Err (Refusal.Field at))) (Ok (items n at)) ≡ Ok (items m end) → Q zero n at
    item_over n at true true e = let z : ◌≡◌ {A = ℕ} 0 1 = cc in absurd (omega arith)
    item_over n at true false e = let z : ◌≡◌ {A = ℕ} 0 1 = cc in absurd (omega arith)
    item_over n at false f e = item_none zero n at e

    item_back : (left n at : ℕ) (rest : ℕ → Result Section Refusal) → ((x : ℕ) → rest x ≡ Ok (items m end) → Q left (n + 1) x)
        → (k f : Bool) (w : Walked) → kind_is file kind at ≡ k → fields at ≡ f → item at ≡ w
        → cond k (cond f (and_then w rest) (Err (Refusal.Field at))) (Ok (items n at)) ≡ Ok (items m end) → Q (suc left) n at
    item_back left n at rest h true true (Ok x) k f w e = back left n at x k f w (h x e)
    item_back left n at rest h true true (Err refusal) k f w e = let z : ◌≡◌ {A = ℕ} 0 1 = cc in absurd (omega arith)
    item_back left n at rest h true false w k f is e = let z : ◌≡◌ {A = ℕ} 0 1 = cc in absurd (omega arith)
    item_back left n at rest h false f w k is it e = item_none (suc left) n at e

    items_induct : (left n at : ℕ) → Counted m end left n at → Q left n at
    unfolding items_of
    items_induct zero n at e = item_over n at (kind_is file kind at) (fields at) e
    items_induct (suc left) n at e =
        item_back left n at (items_of file kind fields item left (n + 1)) (items_induct left (n + 1))
        (kind_is file kind at) (fields at) (item at) refl refl refl e

  pub items_most : (m end left n at : ℕ) → Counted m end left n at → m ≤ n + left
  items_most m end = items_induct m end (λ left n at. m ≤ n + left) (λ left. omega arith) (λ left n at x k f w h. omega arith)

  -- items of one record each
  pub items_single : ((i e : ℕ) → item i ≡ Ok e → e ≡ i + 1) → (m end left n at : ℕ) → Counted m end left n at → end + n ≡ at + m
  items_single single m end =
      items_induct m end (λ left n at. end + n ≡ at + m) (λ left. refl) (λ left n at x k f w h. let z = single at x w in omega arith)

  module _ (P : ℕ → Type 0) (step : (i x : ℕ) → kind_is file kind i ≡ true → item i ≡ Ok x → P i → P x) where
    -- the item that i others lie before, from `at` on
    pub record Reached (i at : ℕ) : Type 0 where
      pub place : ℕ
      pub end : ℕ
      pub reached : in_sequence item i at ≡ Ok place
      pub named : kind_is file kind place ≡ true
      pub right : fields place ≡ true
      pub ends : item place ≡ Ok end
      pub holds : P place

    module _ (m end : ℕ) where
      pub items_through : (left n at : ℕ) → Counted m end left n at → P at → P end
      items_through = items_induct m end (λ left n at. P at → P end) (λ left p. p) (λ left n at x k f w h p. h (step at x k w p))

      reach_back : (n at x : ℕ) → kind_is file kind at ≡ true → fields at ≡ true → item at ≡ Ok x → (P x → (i : ℕ) → n + 1 + i < m → Reached i x)
          → P at → (i : ℕ) → n + i < m → Reached i at
      reach_back n at x k f w h p zero l = record { place = at; end = x; reached = sequence_none item at; named = k; right = f; ends = w; holds = p }
      reach_back n at x k f w h p (suc i) l =
          let r = h (step at x k w p) i (omega arith) in
          let reached = sequence_next item i at x w ∙ r.reached in
          record { place = r.place; end = r.end; reached = reached; named = r.named; right = r.right; ends = r.ends; holds = r.holds }

      pub items_reach : (left n at : ℕ) → Counted m end left n at → P at → (i : ℕ) → n + i < m → Reached i at
      items_reach =
          items_induct m end (λ left n at. P at → (i : ℕ) → n + i < m → Reached i at) (λ left p i l. absurd (omega arith))
          (λ left n at x k f w h. reach_back n at x k f w h)

-- ---- parts in sequence, with what holds where each begins
module _ (part : ℕ → Walked) (P : ℕ → Type 0) (step : (i x : ℕ) → part i ≡ Ok x → P i → P x) (end : ℕ) where
  pub record Part (i at : ℕ) : Type 0 where
    pub place : ℕ
    pub behind : ℕ
    pub reached : in_sequence part i at ≡ Ok place
    pub ends : part place ≡ Ok behind
    pub holds : P place

  pub sequence_through : (n at : ℕ) → in_sequence part n at ≡ Ok end → P at → P end
  sequence_through = sequence_induct part end (λ n at. P at → P end) (λ p. p) (λ n at x is h p. h (step at x is p))

  part_back : (n at x : ℕ) → part at ≡ Ok x → (P x → (i : ℕ) → i < n → Part i x) → P at → (i : ℕ) → i < suc n → Part i at
  part_back n at x is h p zero l = record { place = at; behind = x; reached = sequence_none part at; ends = is; holds = p }
  part_back n at x is h p (suc i) l =
      let r = h (step at x is p) i (omega arith) in
      record { place = r.place; behind = r.behind; reached = sequence_next part i at x is ∙ r.reached; ends = r.ends; holds = r.holds }

  pub sequence_reach : (n at : ℕ) → in_sequence part n at ≡ Ok end → P at → (i : ℕ) → i < n → Part i at
  sequence_reach = sequence_induct part end (λ n at. P at → (i : ℕ) → i < n → Part i at) (λ p i l. absurd (omega arith)) part_back

-- ---- transitions
pub transition_just : (file : List ℕ) (at : ℕ) → transition_fields file at ≡ true → field_a file at ≤ 1
unfolding transition_fields
transition_just file at right = leb-true _ _ ((and-eq-true_iff (leb (field_a file at) 1) (zeros_of file (8 * at + 2) 6)).0 right).0

-- ---- updates
assignment_named : (file : List ℕ) (vars at : ℕ) → assignment_fields file vars at ≡ true → field_a file at < vars
unfolding assignment_fields
assignment_named file vars at right = ltb-true _ _ ((and-eq-true_iff (ltb (field_a file at) vars) (zeros_of file (8 * at + 2) 6)).0 right).0

-- what a pick's fields say
pub record PickRight (file : List ℕ) (vars at : ℕ) : Type 0 where
  pub named : field_a file at < vars
  pub ordered : value_b file at ≤ℤ value_c file at
  pub low : value_b file (field_a file at) ≤ℤ value_b file at
  pub high : value_c file at ≤ℤ value_c file (field_a file at)

pick_right : (file : List ℕ) (vars at : ℕ) → pick_fields file vars at ≡ true → PickRight file vars at
unfolding pick_fields
pick_right file vars at right =
    let a = field_a file at in
    let high = (and-eq-true_iff _ (le_z (value_c file at) (value_c file a))).0 right in
    let low = (and-eq-true_iff _ (le_z (value_b file a) (value_b file at))).0 high.0 in
    let ordered = (and-eq-true_iff _ (le_z (value_b file at) (value_c file at))).0 low.0 in
    let named = (and-eq-true_iff (ltb a vars) (zeros_of file (8 * at + 6) 2)).0 ordered.0 in
    record { named = ltb-true _ _ named.0; ordered = omega ints; low = omega ints; high = omega ints }

pub update_here : (file : List ℕ) (at : ℕ) → is_update file at ≡ true → at < length file / 8
unfolding is_update
update_here file at u =
    ⊎_elim (λ e. (kind_is_lem file 0x04 at e).0) (λ e. (kind_is_lem file 0x08 at e).0) (or_cases (kind_is file 0x04 at) (kind_is file 0x08 at) u)

module _ (file : List ℕ) (vars at : ℕ) where
  pub update_pick : kind_is file 0x08 at ≡ true → update_fields file vars at ≡ true → PickRight file vars at
  unfolding update_fields
  update_pick k right = pick_right file vars at (rw k at right)

  pub update_named : update_fields file vars at ≡ true → field_a file at < vars
  unfolding update_fields
  update_named =
      by-test (kind_is file 0x08 at) (λ b. cond b (pick_fields file vars at) (assignment_fields file vars at) ≡ true → field_a file at < vars)
      (λ k e. (pick_right file vars at e).named) (λ k e. assignment_named file vars at e)

  -- a pick is one record; an assignment ends behind its value
  pub pick_one : kind_is file 0x08 at ≡ true → update_of file vars at ≡ Ok (at + 1)
  unfolding update_of
  pick_one k = rw k

  pub pick_ends : {end : ℕ} → kind_is file 0x08 at ≡ true → update_of file vars at ≡ Ok end → end ≡ at + 1
  pick_ends k e = let z = pick_one k in cc

  pub assignment_ends : {w : Walked} → kind_is file 0x08 at ≡ false → update_of file vars at ≡ w → walk_of file vars 16 number (at + 1) ≡ w
  unfolding update_of
  assignment_ends k e = rw k at e

  -- what is no pick is an assignment
  pub update_assigns : is_update file at ≡ true → kind_is file 0x08 at ≡ false → kind_is file 0x04 at ≡ true
  unfolding is_update
  update_assigns u k = ⊎_elim (λ e. e) (λ e. absurd (false≢true (sym k ∙ e))) (or_cases (kind_is file 0x04 at) (kind_is file 0x08 at) u)

  pub update_bound : is_update file at ≡ true → (end : ℕ) → update_of file vars at ≡ Ok end → (at < end) × (end ≤ length file / 8)
  update_bound u end e =
      by-test (kind_is file 0x08 at) (λ b. (at < end) × (end ≤ length file / 8))
      (λ k. omega (arith, pick_ends k e, update_here file at u))
      (λ k. omega (arith, walk_bound file vars 16 number (at + 1) end (assignment_ends k e)))

module _ (file : List ℕ) (vars end : ℕ) where
  -- by induction over the updates, with the marks of the variables set before: Q is shown behind the last, and carried back past each
  module _ (Q : List ℕ → ℕ → Type 0) (base : (marks : List ℕ) → is_update file end ≡ false → Q marks end)
      (back : (marks : List ℕ) (at x : ℕ) → is_update file at ≡ true → update_fields file vars at ≡ true → get_or marks (field_a file at) 0 ≡ 0
      → update_of file vars at ≡ Ok x → Q (set marks (field_a file at) 1) x → Q marks at) where
    update_none : (marks : List ℕ) (at : ℕ) → is_update file at ≡ false → ◌≡◌ {A = Walked} (Ok at) (Ok end) → Q marks at
    update_none marks at k e = let z : at ≡ end = cc in rw z (base marks (rw z at k))

    update_over : (marks : List ℕ) (at : ℕ) (k f : Bool) → is_update file at ≡ k → cond k (cond f (Err (Refusal.Repetition at)) (Err (Refusal.Field at))) (Ok at) ≡ Ok end
        → Q marks at
    update_over marks at true true k e = let z : ◌≡◌ {A = ℕ} 0 1 = cc in absurd (omega arith)
    update_over marks at true false k e = let z : ◌≡◌ {A = ℕ} 0 1 = cc in absurd (omega arith)
    update_over marks at false f k e = update_none marks at k e

    update_back : (marks : List ℕ) (at : ℕ) (next : ℕ → Walked) → ((x : ℕ) → next x ≡ Ok end → Q (set marks (field_a file at) 1) x)
        → (k f d : Bool) (w : Walked) → is_update file at ≡ k → update_fields file vars at ≡ f → eqb (get_or marks (field_a file at) 0) 0 ≡ d
        → update_of file vars at ≡ w
        → cond k (cond f (cond d (and_then w next) (Err (Refusal.Repetition at))) (Err (Refusal.Field at))) (Ok at) ≡ Ok end → Q marks at
    update_back marks at next h true true true (Ok x) k f d w e = back marks at x k f (eqb-true _ _ d) w (h x e)
    update_back marks at next h true true true (Err r) k f d w e = let z : ◌≡◌ {A = ℕ} 0 1 = cc in absurd (omega arith)
    update_back marks at next h true true false w k f d is e = let z : ◌≡◌ {A = ℕ} 0 1 = cc in absurd (omega arith)
    update_back marks at next h true false d w k f is it e = let z : ◌≡◌ {A = ℕ} 0 1 = cc in absurd (omega arith)
    update_back marks at next h false f d w k is it so e = update_none marks at k e

    pub updates_induct : (left : ℕ) (marks : List ℕ) (at : ℕ) → updates_of file vars left marks at ≡ Ok end → Q marks at
    unfolding updates_of
    updates_induct zero marks at e = update_over marks at (is_update file at) (update_fields file vars at) refl e
    updates_induct (suc left) marks at e =
        let a = field_a file at in
        update_back marks at (updates_of file vars left (set marks a 1)) (updates_induct left (set marks a 1))
        (is_update file at) (update_fields file vars at) (eqb (get_or marks a 0) 0) (update_of file vars at) refl refl refl refl e

  -- what is carried past each update is carried past all
  pub updates_through : (P : ℕ → Type 0) → ((i x : ℕ) → is_update file i ≡ true → update_of file vars i ≡ Ok x → P i → P x)
      → (left : ℕ) (marks : List ℕ) (at : ℕ) → updates_of file vars left marks at ≡ Ok end → P at → P end
  updates_through P step =
      updates_induct (λ marks at. P at → P end) (λ marks k p. p) (λ marks at x k f d w h p. h (step at x k w p))

  -- a transition: where its guard ends, and its updates from there on
  pub record Guarded (at : ℕ) : Type 0 where
    pub place : ℕ
    pub guard : walk_of file vars 16 truth (at + 1) ≡ Ok place
    pub updates : updates_of file vars 12 (replicate 12 0) place ≡ Ok end

  pub transition_opens : (at : ℕ) → transition_of file vars at ≡ Ok end → Guarded at
  unfolding transition_of
  transition_opens at e = let g = then_ends (walk_of file vars 16 truth (at + 1)) e in record { place = g.mid; guard = g.first; updates = g.rest }

  pub transition_bound : (at : ℕ) → transition_of file vars at ≡ Ok end → (at < end) × (end ≤ length file / 8)
  transition_bound at e =
      let t = transition_opens at e in
      let b = walk_bound file vars 16 truth (at + 1) t.place t.guard in
      updates_through (λ i. (at < i) × (i ≤ length file / 8))
      (λ i x k w p. omega (arith, update_bound file vars i k x w)) 12 (replicate 12 0) t.place t.updates (omega arith)

-- behind t transitions in turn
pub transitions_bound : (file : List ℕ) (vars t first end : ℕ) → first ≤ length file / 8 → in_sequence (transition_of file vars) t first ≡ Ok end
    → end ≤ length file / 8
transitions_bound file vars t first end l e =
    (sequence_bound (transition_of file vars) (length file / 8) (λ i x. transition_bound file vars x i) t first end l e).1

-- ---- a node: where its assertion ends, and its ranks from there on
module _ (file : List ℕ) (vars ranks at end : ℕ) (e : node_of file vars ranks at ≡ Ok end) where
  pub node_opens : First (truth_of file vars (at + 1)) (in_sequence (walk_of file vars 16 number) ranks) (Ok end)
  node_opens = then_ends (truth_of file vars (at + 1)) e

  pub node_bound : (at < end) × (end ≤ length file / 8)
  node_bound =
      let n = node_opens in
      let a = walk_bound file vars 16 truth (at + 1) n.mid n.first in
      let b = sequence_bound (walk_of file vars 16 number) (length file / 8) (walk_bound file vars 16 number) ranks n.mid end a.1 n.rest in
      omega arith

-- ---- an item of one record that passed its test
module _ (file : List ℕ) (kind : ℕ) (fields : ℕ → Bool) (item : ℕ → Walked) (single : (i e : ℕ) → item i ≡ Ok e → e ≡ i + 1) where
  sequence_single : (end n at : ℕ) → in_sequence item n at ≡ Ok end → end ≡ at + n
  sequence_single end = sequence_induct item end (λ n at. end ≡ at + n) (omega arith) (λ n at x is h. let b = single at x is in omega arith)

  pub single_nth : (m end left at : ℕ) → items_of file kind fields item left 0 at ≡ Ok (items m end) → (i : ℕ) → i < m
      → (fields (at + i) ≡ true) × (item (at + i) ≡ Ok (at + i + 1))
  single_nth m end left at e i l =
      let n = items_reach file kind fields item (λ x. Unit {0}) (λ x y k w u. tt) m end left 0 at e tt i (omega arith) in
      let z = sequence_single n.place i at n.reached in
      let y = single n.place n.end n.ends in
      (subst (λ (x : ℕ). fields x ≡ true) z n.right, subst (λ (x : ℕ). item x ≡ Ok (x + 1)) z (n.ends ∙ ap Ok y))

-- an edge that is read repeats none, and is one record
pub edge_opens : (file : List ℕ) (first at end : ℕ) → edge_of file first at ≡ Ok end → (repeated_of file at first (at - first) ≡ false) × (end ≡ at + 1)
edge_opens file first at end = unrepeated (repeated_of file at first (at - first))
  where
    unrepeated : (b : Bool) → cond b (Err (Refusal.Repetition at)) (Ok (at + 1)) ≡ Ok end → (b ≡ false) × (end ≡ at + 1)
    unrepeated true e = let z : ◌≡◌ {A = ℕ} 0 1 = cc in absurd (omega arith)
    unrepeated false e = (refl, cc)
