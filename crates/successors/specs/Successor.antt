-- Where a transition leads from a box of states: its guard and its updates, as `guard_of` and `update_list` are in one state.
use Rattle.std.specs.Prelude.{List, [], ◌∷◌, cond, ℕ, zero, suc, ◌+◌, ◌/◌, length, get_or, set, ℤ, pos}
use Rattle.records.specs.Record.{field_a, value_b, value_c, kind_is}
use Rattle.sections.specs.Section.{is_update}
use Rattle.intervals.specs.Interval.{interval}
use Rattle.expressions.specs.Expression.{part_at, behind}
use Rattle.boxes.specs.declared.Box.{Box}
use Rattle.boxes.specs.Box.{box}
use Rattle.domains.specs.declared.seen.Seen.{Seen}
use Rattle.domains.specs.declared.seen.Seen.TheVariants.{Yes, No}
use Rattle.domains.specs.declared.extents.Extent.{Extent}
use Rattle.domains.specs.Seen.{both_of, never_of}
use Rattle.domains.specs.Extent.{cut_of, at_most_in}
use Rattle.enclosures.specs.Enclosure.{number_in, seen_of}
use Rattle.successors.specs.declared.Target.{Target}
use Rattle.successors.specs.declared.Reached.{Reached}
use Rattle.successors.specs.declared.Moved.{Moved}

-- ---- one variable
-- the extent of a number that is known
abbrev pub point_of : ℤ → Extent
point_of x = record { span = interval x x; widest = 12 }

-- what variable i is set to lies in its range
unfoldable pub range_in : Box → ℕ → Extent → Seen
range_in ranges i e = both_of (at_most_in (point_of (get_or ranges.low i (pos 0))) e) (at_most_in e (point_of (get_or ranges.high i (pos 0))))

-- the number, or the end of the range of variable i that it lies beyond
abbrev pub cut_in : Box → ℕ → ℤ → ℤ
cut_in ranges i x = cut_of (get_or ranges.low i (pos 0)) (get_or ranges.high i (pos 0)) x

-- ---- the updates of a transition
-- the one at record `at`: what is known of an assignment's value, or the values of a pick, for which no variable is to blame
unfoldable pub assigned_at : List ℕ → ℕ → Box → Target
assigned_at file at b = record { variable = field_a file at; extent = number_in 16 (part_at file (at + 1)) b; end = behind file (at + 1) }

unfoldable pub picked_at : List ℕ → ℕ → Target
picked_at file at = record { variable = field_a file at; extent = record { span = interval (value_b file at) (value_c file at); widest = 12 }; end = at + 1 }

unfoldable pub target_at : List ℕ → ℕ → Box → Target
target_at file at b = cond (kind_is file 0x08 at) (picked_at file at) (assigned_at file at b)

-- those from record `at` on, n at most, as long as there is one
unfoldable pub targets_from : List ℕ → ℕ → ℕ → Box → List Target
targets_from file zero at b = []
targets_from file (suc n) at b = cond (is_update file at) (target_at file at b ∷ targets_from file n (target_at file at b).end b) []

-- one update more: its variable may have the values of the extent that lie in its range
unfoldable pub toward_of : Box → Reached → Target → Reached
toward_of ranges m t =
    let i = t.variable in
    let s = t.extent.span in
    record {
      range = both_of m.range (range_in ranges i t.extent);
      to = box (set m.to.low i (cut_in ranges i s.low)) (set m.to.high i (cut_in ranges i s.high));
    }

unfoldable pub reached_by : Box → List Target → Reached → Reached
reached_by ranges [] m = m
reached_by ranges (t ∷ rest) m = reached_by ranges rest (toward_of ranges m t)

-- before any update
abbrev pub start : Box → Reached
start b = record { range = Yes; to = b }

-- ---- the transition at record `at`
unfoldable pub reached_from : Box → List ℕ → ℕ → Box → Reached
reached_from ranges file at b = reached_by ranges (targets_from file (length file / 8) (behind file (at + 1)) b) (start b)

-- its updates are not looked at where its guard is seen never to hold
unfoldable pub move_of : Box → List ℕ → ℕ → Box → Moved
move_of ranges file at b =
    let g = seen_of file (at + 1) b in
    let r = cond (never_of g) (record { range = No; to = b }) (reached_from ranges file at b) in
    record { guard = g; range = r.range; to = r.to }
