-- `sections::update` meets its contract.
-- Assumes nothing.
use Rattle.std.proofs.Common.{arith}
use Rattle.std.proofs.lemmas.Grind.{common_steps}
use Rattle.sections.specs.Section.{update_of}
use Rattle.sections.proofs.update.Goals as goal

pub returns-then-kind_is : goal.returns-then-kind_is
unfolding update_of
returns-then-kind_is c = grind (arith, common_steps)

pub returns-else-kind_is : goal.returns-else-kind_is
unfolding update_of
returns-else-kind_is c = grind (arith, common_steps)
