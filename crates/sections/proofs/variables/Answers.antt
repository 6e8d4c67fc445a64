-- `sections::variables` meets its contract: the section of variables.
-- Assumes nothing.
use Rattle.sections.specs.Section.{variables_of}
use Rattle.sections.proofs.variables.Goals as goal

pub returns : goal.returns
unfolding variables_of
returns c = c.items.ensures
