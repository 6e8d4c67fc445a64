-- `integers::intervals::around`: its ends are the least and the greatest. Assumes nothing.
use borrow.Author.Rules.{rules}
use Rattle.integers.specs.Interval.{around}
use Rattle.integers.proofs.Laws.Interval.{int_min_is, int_max_is}
use Rattle.integers.proofs.intervals.around.Goals as goal

pub returns : goal.returns
unfolding around
returns c = search (rules, int_min_is, int_max_is)
