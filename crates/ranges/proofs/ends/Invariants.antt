-- `ranges::ends`: with the ends of v variables filled in, the table is that of v variables.
-- Assumes nothing.
use mathlib.Core.Path.{◌≡◌}
use Rattle.ranges.specs.Range.{ends_of}
use Rattle.ranges.proofs.ends.Given as goal

abbrev pub invariant-loop-v : goal.invariant-loop-v
invariant-loop-v l = l.ends ≡ ends_of l.file l.v l.field
