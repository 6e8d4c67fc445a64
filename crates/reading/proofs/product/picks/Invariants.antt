-- `reading::product::picks`: what the records left make of the combinations so far is what all of them make; these are at most 4,096.
-- Assumes nothing.
use mathlib.Core.Path.{◌≡◌}
use Prim.Native.Nat.{◌-◌, ◌≤◌}
use Rattle.reading.specs.Picks.{picks_from, picks_of}
use Rattle.reading.proofs.product.picks.Given as goal

abbrev pub invariant-loop-at : goal.invariant-loop-at
invariant-loop-at l = (picks_of l.file ≡ picks_from l.file (l.records - l.at) l.at l.p) × (l.p.product ≤ 4096)
