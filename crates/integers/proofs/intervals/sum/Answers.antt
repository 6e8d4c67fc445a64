-- `integers::intervals::sum` meets its contract: the sum of two numbers in bounds fits. Assumes nothing.
use lib.IntN.{◌+ℤ◌}
use borrow.Author.Rules.{rules}
use Rattle.integers.proofs.Laws.Bounds.{sum_fits}
use Rattle.integers.proofs.intervals.sum.Goals as goal

pub returns : goal.returns
returns c = c.over_ends.ensures ◌+ℤ◌ (λ x y r h k p. let f = sum_fits x y h k in search rules)
