-- `expressions::compare` where the two are compared for equality, by their bits. Assumes nothing.
use Rattle.integers.proofs.Laws.Equality.{bits_equal}
use Rattle.expressions.specs.Expression.{compare_of}
use Rattle.expressions.proofs.compare.Goals as goal

pub returns-in-39 : goal.returns-in-39
unfolding compare_of
returns-in-39 c = rw (bits_equal c.ranges.x c.ranges.y, c.in-39.is)
