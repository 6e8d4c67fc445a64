-- `sections::edge_at` meets its contract.
-- Assumes nothing.
use Rattle.sections.specs.Section.{edge_at}
use Rattle.sections.proofs.edge_at.Goals as goal

pub returns : goal.returns
unfolding edge_at
returns c = rw (c.from.ensures, c.byte_at.ensures, c.word_at.ensures.0, c.word_at-2.ensures.0, c.byte_at-2.ensures)
