-- `sections::update_fields` meets its contract.
-- Assumes nothing.
use Rattle.std.proofs.Common.{arith}
use Rattle.std.proofs.lemmas.Grind.{common_steps}
use Rattle.sections.specs.Section.{update_fields}
use Rattle.sections.proofs.update_fields.Goals as goal

pub returns-then-kind_is : goal.returns-then-kind_is
unfolding update_fields
returns-then-kind_is c = grind (arith, common_steps)

pub returns-else-kind_is : goal.returns-else-kind_is
unfolding update_fields
returns-else-kind_is c = grind (arith, common_steps)
