-- `reading::product::range_size`: the lower of the two values goes first.
-- Assumes nothing.
use mathlib.Core.Path.{◌∙◌}
use mir.Syntax.{w16}
use Rattle.integers.proofs.Laws.Parts.{back}
use Rattle.states.proofs.Laws.Number.{size_swap}
use Rattle.reading.specs.States.{size_at}
use Rattle.reading.proofs.product.range_size.Goals as goal

pub returns-then-high-low : goal.returns-then-high-low
unfolding size_at
returns-then-high-low c =
    let low = c.value_at-low in
    let high = c.value_at-high in
    (c.size.ensures.0 ∙ rw (back w16 low.result low.type_inv, back w16 high.result high.type_inv, low.ensures, high.ensures) (size_swap _ _), c.size.ensures.1)
