-- A transition's updates on a box, one after the other. Assumes nothing.
use mathlib.Core.Path.{◌≡◌, refl}
use mathlib.Core.List.{List, []}
use mathlib.Core.Bool.{true, false}
use Prim.Native.Nat.{ℕ, zero, suc, ◌+◌, ◌/◌, ◌<◌}
use lib.ListN.{length}
use lib.IntN.{ℤ}
use mir.Syntax.{w16}
use mir.Val.{SFits}
use Rattle.integers.specs.Interval.{bounds}
use Rattle.integers.specs.Inside.{In, Bounded}
use Rattle.integers.proofs.Laws.Parts.{ints, one_part}
use Rattle.records.specs.Record.{field_a, kind_is}
use Rattle.sections.specs.Section.{is_update}
use Rattle.truths.proofs.Laws.Truth.{by-test}
use Rattle.expressions.specs.Expression.{behind}
use Rattle.evaluating.specs.Fits.{UpdatesFit}
use Rattle.evaluating.specs.Transition.{update_at}
use Rattle.evaluating.proofs.Laws.Transition.{fits_more, pick_is, assignment_is}
use Rattle.boxes.specs.declared.Box.{Box}
use Rattle.domains.specs.declared.seen.Seen.{Seen}
use Rattle.domains.specs.declared.seen.Seen.TheVariants.{No}
use Rattle.domains.specs.Seen.{never_of}
use Rattle.enclosures.specs.Enclosure.{seen_of}
use Rattle.enclosures.proofs.Laws.Enclosure.{number_bounded}
use Rattle.successors.specs.declared.Target.{Target}
use Rattle.successors.specs.declared.Reached.{Reached}
use Rattle.successors.specs.declared.Moved.{Moved}
use Rattle.successors.specs.Successor.{picked_at, assigned_at, target_at, targets_from, toward_of, reached_by, start, reached_from, move_of}

-- a 16-bit number lies in bounds
pub small : {x : ℤ} → SFits w16 x → In x bounds
small {x} f = record { above = omega (ints, one_part x); below = omega (ints, one_part x) }

-- ---- an update on a box, by its kind
module _ (file : List ℕ) (at : ℕ) (b : Box) where
  pub target_variable : (target_at file at b).variable ≡ field_a file at
  unfolding target_at picked_at assigned_at
  target_variable = by-test (kind_is file 0x08 at) (λ t. (target_at file at b).variable ≡ field_a file at) (λ k. rw k) (λ k. rw k)

  pub target_picked : kind_is file 0x08 at ≡ true → target_at file at b ≡ picked_at file at
  unfolding target_at
  target_picked k = rw k

  pub target_assigned : kind_is file 0x08 at ≡ false → target_at file at b ≡ assigned_at file at b
  unfolding target_at
  target_assigned k = rw k

  pub assigned_bounded : Bounded (assigned_at file at b).extent.span
  unfolding assigned_at
  assigned_bounded = number_bounded 16 _ b

  pub target_end : (target_at file at b).end ≡ (update_at file at b.low).end
  unfolding target_at picked_at assigned_at
  target_end =
      by-test (kind_is file 0x08 at) (λ t. (target_at file at b).end ≡ (update_at file at b.low).end)
      (λ k. rw (k, pick_is file at b.low k)) (λ k. rw (k, assignment_is file at b.low k))

-- ---- in the loop: what is left to be made of m is what all the updates make of the box
module _ (ranges : Box) (file : List ℕ) (b : Box) (all : Reached) where
  pub record Left (m : Reached) (at left : ℕ) : Type 0 where
    pub fit : UpdatesFit file left at b.low
    pub result : reached_by ranges (targets_from file left at b) m ≡ all

  module _ {m : Reached} {at left : ℕ} (l : Left m at left) where
    done : targets_from file left at b ≡ [] → m ≡ all
    unfolding reached_by
    done e = rw e at l.result

    targets_none : (n : ℕ) → is_update file at ≡ false → targets_from file n at b ≡ []
    unfolding targets_from
    targets_none zero e = refl
    targets_none (suc n) e = rw e

    pub left_none : is_update file at ≡ false → m ≡ all
    left_none e = done (targets_none left e)

    pub left_end : left ≡ 0 → m ≡ all
    unfolding targets_from
    left_end e = done (rw e)

    module _ (n : ℕ) (is : left ≡ suc n) (e : is_update file at ≡ true) {t : Target} (found : t ≡ target_at file at b) where
      pub left_variable : t.variable < 12
      left_variable = rw (found, target_variable) (fits_more file at b.low is e l.fit).0.named

      pub left_more : {k : Reached} → k ≡ toward_of ranges m t → Left k t.end n
      unfolding targets_from reached_by
      left_more d =
          record {
            fit = rw (found, target_end) (fits_more file at b.low is e l.fit).1;
            result = rw (d, found) (rw (is, e) at l.result);
          }

-- ---- the transition
module _ (ranges : Box) (file : List ℕ) (at : ℕ) (b : Box) {g : Seen} (seen : g ≡ seen_of file (at + 1) b) where
  pub move_off : never_of g ≡ true → ◌≡◌ {A = Moved} (record { guard = g; range = No; to = b }) (move_of ranges file at b)
  unfolding move_of
  move_off e = rw (← seen, e)

  pub move_on : never_of g ≡ false → {r : Reached} → r ≡ reached_by ranges (targets_from file (length file / 8) (behind file (at + 1)) b) (start b)
      → ◌≡◌ {A = Moved} (record { guard = g; range = r.range; to = r.to }) (move_of ranges file at b)
  unfolding move_of reached_from
  move_on e d = rw (← seen, e, d)
