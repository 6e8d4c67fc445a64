-- `integers::intervals::in_bounds` meets its contract: each end is tested. Assumes nothing.
use borrow.Author.Rules.{rules}
use Rattle.integers.specs.Interval.{in_bounds}
use Rattle.integers.proofs.Laws.Interval.{cmp_le}
use Rattle.integers.proofs.intervals.in_bounds.Goals as goal

pub returns-then-contains : goal.returns-then-contains
unfolding in_bounds
returns-then-contains c = search (rules, cmp_le)

pub returns-else-contains : goal.returns-else-contains
unfolding in_bounds
returns-else-contains c = search (rules, cmp_le)
