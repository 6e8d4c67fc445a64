-- `states::size`: the offset of a range's high end is below 65,536.
-- Assumes nothing.
use mathlib.Core.Path.{ap}
use Prim.Native.Nat.{ℕ, ◌+◌}
use native.Mathlib.Omega.{arith}
use mir.Facts.{to_z-of_z}
use Rattle.integers.proofs.Laws.Radix.{offset_small}
use Rattle.states.specs.Number.{size_of}
use Rattle.states.proofs.size.Goals as goal

pub returns : goal.returns
unfolding size_of
returns c = let s = c.before in
    let e = rw (to_z-of_z s.ranges.low, to_z-of_z s.ranges.high) at c.offset_of.ensures in
    (ap (λ (n : ℕ). n + 1) e, omega (arith, e, offset_small s.args.low s.args.high s.ranges.low s.ranges.high))
