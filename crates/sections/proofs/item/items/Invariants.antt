-- `sections::item::items` meets its contract. The loop's invariant: the section is what its items from `at` on make it, `count` before them and at most
-- `most - count` to follow.
-- Assumes nothing.
use mathlib.Core.Path.{◌≡◌}
use Prim.Native.Nat.{◌-◌, ◌≤◌}
use Rattle.sections.specs.Section.{items_of}
use Rattle.sections.proofs.item.items.Given as goal

abbrev pub invariant-loop-item : goal.invariant-loop-item
invariant-loop-item g l =
    let i = g.I.Item in
    let from = items_of l.file i.KIND (i.fields l.item l.file) (i.walk l.item l.file) in
    (from l.most 0 l.from ≡ from (l.most - l.count) l.count l.at) × ((l.count ≤ l.most) × (l.from ≤ l.at))

abbrev pub decreases-loop-item : goal.decreases-loop-item
decreases-loop-item g l = l.most - l.count
