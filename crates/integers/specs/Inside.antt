-- What lies in an interval, and which intervals lie in the bounds.
use Rattle.std.specs.Prelude.{ℤ, ◌≤ℤ◌}
use Rattle.integers.specs.declared.Interval.{Interval}
use Rattle.integers.specs.Interval.{bounds}

-- x lies in i
pub record In (x : ℤ) (i : Interval) : Type 0 where
  pub above : i.low ≤ℤ x
  pub below : x ≤ℤ i.high

-- what `in_bounds` tests
pub record Bounded (i : Interval) : Type 0 where
  pub low : In i.low bounds
  pub high : In i.high bounds
