-- `integers::intervals::difference` meets its contract: the difference of two numbers in bounds fits. Asdifferencees nothing.
use lib.IntN.{◌-ℤ◌}
use borrow.Author.Rules.{rules}
use Rattle.integers.proofs.Laws.Bounds.{difference_fits}
use Rattle.integers.proofs.intervals.difference.Goals as goal

pub returns : goal.returns
returns c = c.over_ends.ensures ◌-ℤ◌ (λ x y r h k p. let f = difference_fits x y h k in search rules)
