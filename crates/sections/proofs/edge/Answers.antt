-- `sections::edge` meets its contract: whether it repeats one decides.
-- Assumes nothing.
use Rattle.truths.proofs.Laws.Answer.{if_taken, if_left}
use Rattle.sections.proofs.edge.Goals as goal

pub returns-then-repeated : goal.returns-then-repeated
returns-then-repeated c = rw (if_taken c.repeated.ensures c.if-repeated.true)

pub returns : goal.returns
returns c = rw (if_left c.repeated.ensures c.if-repeated.false)
