-- `sections::edges` meets its contract: the section of edges.
-- Assumes nothing.
use Rattle.sections.specs.Section.{edges_of}
use Rattle.sections.proofs.edges.Goals as goal

pub returns : goal.returns
unfolding edges_of
returns c = c.items.ensures
