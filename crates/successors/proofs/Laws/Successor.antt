-- Where a transition leads from a box is right for each of its states where the transition fits.
--     guard_said           whether its guard holds
--     range_said           whether the values that it gives lie in range, where its guard holds
--     enabled_said         whether it is enabled
--     successor_inside     each successor of an enabled transition lies in the box that it leads to
--     to_low, to_high      that box lies in the ranges, as the box that it leads from does
-- Assumes nothing.
use mathlib.Core.Path.{◌≡◌, refl}
use mathlib.Core.List.{List, [], ◌∷◌}
use mathlib.Core.Bool.{Bool, true, cond, ◌&&◌, and-true, and_assoc, and-eq-true_iff}
use Prim.Native.Nat.{ℕ, zero, suc, ◌+◌, ◌/◌}
use lib.ListN.{length, get_or, set}
use lib.IntN.{ℤ, pos}
use lib.Signed.{◌≤ℤ◌, ≤ℤ_refl}
use Rattle.integers.specs.Inside.{In}
use Rattle.truths.proofs.Laws.Truth.{by-test}
use Rattle.records.specs.Record.{kind_is}
use Rattle.sections.specs.Section.{is_update}
use Rattle.states.specs.State.{Within}
use Rattle.states.specs.State.Within.{none as no_values, more as more_values}
use Rattle.states.proofs.Laws.State.{ranges_at, within_ranges, within_set, within_ends}
use Rattle.expressions.specs.Expression.{part_at, behind}
use Rattle.expressions.proofs.Laws.Sound.{constant_in}
use Rattle.evaluating.specs.Transition.{update_at, updates_from, in_range_of, all_in_range, lowest, highest, update_list}
use Rattle.evaluating.specs.Step.{guard_of, enabled_of, lowest_of, highest_of}
use Rattle.evaluating.specs.Fits.{UpdateFits, UpdatesFit, TransitionFits}
use Rattle.evaluating.proofs.Laws.Transition.{in_range_both, in_range_ends, range_none, range_more, updated_none, updated_more, pick_is, assignment_is}
use Rattle.evaluating.proofs.Laws.Transition.{list_end, list_none, list_more, list_from, fits_more}
use Rattle.evaluating.proofs.Laws.Step.{guard_holds_lem, enabled_and, enabled_both, lowest_is, highest_is}
use Rattle.boxes.specs.declared.Box.{Box}
use Rattle.boxes.specs.Box.{Inside}
use Rattle.domains.specs.declared.seen.Seen.TheVariants.{No}
use Rattle.domains.specs.declared.extents.Extent.{Extent}
use Rattle.domains.specs.Seen.{Says, both_of, never_of}
use Rattle.domains.proofs.Laws.Seen.{says_yes, alike_says, both_says, both_asked, never_true}
use Rattle.domains.proofs.Laws.Extent.{cut_low, cut_high, cut_in_lem, at_most_says}
use Rattle.enclosures.specs.Enclosure.{seen_of}
use Rattle.enclosures.proofs.Laws.Enclosure.{number_inside, seen_said}
use Rattle.successors.specs.declared.Target.{Target}
use Rattle.successors.specs.declared.Reached.{Reached}
use Rattle.successors.specs.declared.Moved.{Moved}
use Rattle.successors.specs.Successor.{point_of, range_in, cut_in, picked_at, assigned_at, target_at, targets_from, toward_of, reached_by, start, reached_from, move_of}

-- a value and its ends are set together
sets_within : {low high state : List ℤ} {a x z : ℤ} → Within low high state → (i : ℕ) → a ≤ℤ x → x ≤ℤ z → Within (set low i a) (set high i z) (set state i x)
sets_within no_values i l m = no_values
sets_within (more_values p q w) zero l m = more_values l m w
sets_within (more_values p q w) (suc i) l m = more_values p q (sets_within w i l m)

module _ (ranges : Box) where
  -- ---- one update
  range_says : (i : ℕ) (e : Extent) (x : ℤ) → In x e.span → Says (range_in ranges i e) (in_range_of ranges.low ranges.high i x)
  unfolding range_in
  range_says i e x h =
      rw (in_range_both ranges.low ranges.high i x)
      (both_says _ _ _ _ (at_most_says (point_of (get_or ranges.low i (pos 0))) e _ x (constant_in _) h)
      (at_most_says e (point_of (get_or ranges.high i (pos 0))) x _ h (constant_in _)))

  -- what m says of the lowest and the highest values that the updates so far give, where r says whether they lie in range
  record Stands (m : Reached) (r : Bool) (low high : List ℤ) : Type 0 where
    says : Says m.range r
    holds_low : r ≡ true → Inside m.to low
    holds_high : r ≡ true → Inside m.to high

  none_stands : {m : Reached} {r : Bool} {low high : List ℤ} → Stands m r low high
      → Stands m (r && all_in_range ranges.low ranges.high []) (lowest [] low) (highest [] high)
  none_stands {m} {r} {low} {high} s = rw (range_none ranges.low ranges.high, and-true r, updated_none _ low, updated_none _ high) s

  -- a value of the extent is set, as the ends are
  set_inside : {to : Box} {state : List ℤ} (i : ℕ) (e : Extent) (x : ℤ) → In x e.span → in_range_of ranges.low ranges.high i x ≡ true → Inside to state
      → Within (set to.low i (cut_in ranges i e.span.low)) (set to.high i (cut_in ranges i e.span.high)) (set state i x)
  set_inside i e x h in_range_lem w =
      let ends = in_range_ends ranges.low ranges.high i x in_range_lem in
      sets_within w i (cut_low _ _ _ ends.0 ends.1 h.above) (cut_high _ _ _ ends.0 ends.1 h.below)

  toward_stands : {m : Reached} {r : Bool} {low high : List ℤ} (t : Target) (x y : ℤ) → In x t.extent.span → In y t.extent.span → Stands m r low high
      → Stands (toward_of ranges m t)
      (r && (in_range_of ranges.low ranges.high t.variable x && in_range_of ranges.low ranges.high t.variable y))
      (set low t.variable x) (set high t.variable y)
  unfolding toward_of
  toward_stands {m} {r} {low} {high} t x y h k s =
      let i = t.variable in
      let a = in_range_of ranges.low ranges.high i x in
      let b = in_range_of ranges.low ranges.high i y in
      record {
        says = both_says _ _ _ _ s.says (alike_says _ a b (range_says i t.extent x h) (range_says i t.extent y k));
        holds_low = λ e.
            let both = (and-eq-true_iff r (a && b)).0 e in
            set_inside i t.extent x h ((and-eq-true_iff a b).0 both.1).0 (s.holds_low both.0);
        holds_high = λ e.
            let both = (and-eq-true_iff r (a && b)).0 e in
            set_inside i t.extent y k ((and-eq-true_iff a b).0 both.1).1 (s.holds_high both.0);
      }

  module _ (file : List ℕ) {b : Box} {state : List ℤ} (inside : Inside b state) where
    -- what is known of an update is so of its values in the state
    record Known (at : ℕ) : Type 0 where
      variable : (target_at file at b).variable ≡ (update_at file at state).variable
      low : In (update_at file at state).low (target_at file at b).extent.span
      high : In (update_at file at state).high (target_at file at b).extent.span
      end : (target_at file at b).end ≡ (update_at file at state).end

    known : (at : ℕ) → UpdateFits file at state → Known at
    unfolding target_at picked_at assigned_at
    known at h =
        by-test (kind_is file 0x08 at) (λ t. Known at)
        (λ k. record {
          variable = rw (k, pick_is file at state k);
          low = rw (k, pick_is file at state k) (record { above = ≤ℤ_refl _; below = h.ordered k });
          high = rw (k, pick_is file at state k) (record { above = h.ordered k; below = ≤ℤ_refl _ });
          end = rw (k, pick_is file at state k);
        })
        (λ k.
        let x = number_inside inside 16 (part_at file (at + 1)) (h.value k) in
        record {
          variable = rw (k, assignment_is file at state k);
          low = rw (k, assignment_is file at state k) x;
          high = rw (k, assignment_is file at state k) x;
          end = rw (k, assignment_is file at state k);
        })

    -- ---- all of them
    abbrev InRange : ℕ → ℕ → Bool
    InRange n at = all_in_range ranges.low ranges.high (updates_from file n at state)

    abbrev Reaches : ℕ → ℕ → Reached → Bool → List ℤ → List ℤ → Type 0
    Reaches n at m r low high =
        Stands (reached_by ranges (targets_from file n at b) m) (r && InRange n at)
        (lowest (updates_from file n at state) low) (highest (updates_from file n at state) high)

    reached_stands : (n at : ℕ) {m : Reached} {r : Bool} {low high : List ℤ} → UpdatesFit file n at state → Stands m r low high → Reaches n at m r low high
    unfolding reached_by targets_from
    reached_stands zero at h s = rw (list_end file at state) (none_stands s)
    reached_stands (suc n) at {m} {r} {low} {high} h s =
        by-test (is_update file at) (λ t. Reaches (suc n) at m r low high)
        (λ e.
        let f = fits_more file at state refl e h in
        let k = known at f.0 in
        rw (e, list_more file at state {n = n} refl e, range_more, updated_more, updated_more, ← k.variable, ← k.end)
        (rw (and_assoc r _ _) at
        (reached_stands n (target_at file at b).end (rw k.end f.1) (toward_stands (target_at file at b) _ _ k.low k.high s))))
        (λ e. rw (e, list_none file at state (suc n) e) (none_stands s))

    -- ---- the transition
    module _ (at : ℕ) (h : TransitionFits file at state) where
      abbrev moved : Moved
      moved = move_of ranges file at b

      abbrev all : Bool
      all = all_in_range ranges.low ranges.high (update_list file at state)

      abbrev enabled : Bool
      enabled = enabled_of ranges.low ranges.high file at state

      guard_seen : Says (seen_of file (at + 1) b) (guard_of file at state)
      guard_seen = rw (guard_holds_lem file at state) (seen_said inside file (at + 1) h.guard)

      reached_all : Stands (reached_from ranges file at b) all (lowest_of file at state) (highest_of file at state)
      unfolding reached_from
      reached_all =
          rw (lowest_is file at state, highest_is file at state, list_from file at state)
          (reached_stands (length file / 8) (behind file (at + 1)) {r = true} h.updates
          (record { says = says_yes refl; holds_low = λ e. inside; holds_high = λ e. inside }))

      pub guard_said : Says moved.guard (guard_of file at state)
      unfolding move_of
      guard_said = guard_seen

      pub range_said : guard_of file at state ≡ true → Says moved.range all
      unfolding move_of
      range_said g = rw (never_true _ _ guard_seen g) reached_all.says

      pub enabled_said : Says (both_of moved.guard moved.range) enabled
      enabled_said = rw (enabled_and ranges.low ranges.high file at state) (both_asked moved.guard _ _ all guard_said range_said)

      pub successor_inside : enabled ≡ true → {next : List ℤ} → Within (lowest_of file at state) (highest_of file at state) next → Inside moved.to next
      unfolding move_of
      successor_inside e w =
          let both = enabled_both ranges.low ranges.high file at state e in
          rw (never_true _ _ guard_seen both.0) (within_ends (reached_all.holds_low both.1) (reached_all.holds_high both.1) w)

  -- ---- the box that it leads to lies in the ranges: P is the low or the high ends of a box, E the same end of an extent
  module _ (P : Box → List ℤ) (E : Target → ℤ)
      (sets : (m : Reached) (t : Target) → P (toward_of ranges m t).to ≡ set (P m.to) t.variable (cut_in ranges t.variable (E t))) where
    reached_lies : (ts : List Target) (m : Reached) → Inside ranges (P m.to) → Inside ranges (P (reached_by ranges ts m).to)
    unfolding reached_by
    reached_lies [] m w = w
    reached_lies (t ∷ ts) m w =
        let i = t.variable in
        let c = cut_in_lem _ _ (E t) (ranges_at (within_ranges w) i) in
        reached_lies ts (toward_of ranges m t) (rw (sets m t) (within_set w i c.0 c.1))

    moved_lies : (file : List ℕ) (at : ℕ) (b : Box) → Inside ranges (P b) → Inside ranges (P (move_of ranges file at b).to)
    unfolding move_of reached_from
    moved_lies file at b w =
        by-test (never_of (seen_of file (at + 1) b)) (λ t. Inside ranges (P (cond t (record { range = No; to = b }) (reached_from ranges file at b)).to))
        (λ e. w) (λ e. reached_lies _ (start b) w)

  module _ (file : List ℕ) (at : ℕ) (b : Box) where
    pub to_low : Inside ranges b.low → Inside ranges (move_of ranges file at b).to.low
    unfolding toward_of
    to_low w = moved_lies (λ c. c.low) (λ t. t.extent.span.low) (λ m t. refl) file at b w

    pub to_high : Inside ranges b.high → Inside ranges (move_of ranges file at b).to.high
    unfolding toward_of
    to_high w = moved_lies (λ c. c.high) (λ t. t.extent.span.high) (λ m t. refl) file at b w
