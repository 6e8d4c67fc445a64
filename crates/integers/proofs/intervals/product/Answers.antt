-- `integers::intervals::product` meets its contract: the product of two numbers in bounds fits. Assumes nothing.
use lib.IntN.{◌*ℤ◌}
use borrow.Author.Rules.{rules}
use Rattle.integers.proofs.Laws.Bounds.{product_fits}
use Rattle.integers.proofs.intervals.product.Goals as goal

pub over_ends-requires-clause-callable : goal.over_ends-requires-clause-callable
over_ends-requires-clause-callable c = λ x y h k κ q a b. let f = product_fits x y h k in search rules

pub returns : goal.returns
returns c = c.over_ends.ensures ◌*ℤ◌ (λ x y r h k p. let f = product_fits x y h k in search rules)
