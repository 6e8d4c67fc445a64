-- `sections::variable_fields` meets its contract.
-- Assumes nothing.
use Rattle.std.proofs.Common.{arith}
use Rattle.std.proofs.lemmas.Grind.{common_steps}
use Rattle.sections.specs.Section.{variable_fields}
use Rattle.sections.proofs.variable_fields.Goals as goal

pub returns-then-zeros-2 : goal.returns-then-zeros-2
unfolding variable_fields
returns-then-zeros-2 c = grind (arith, common_steps)

pub returns-else-zeros-2 : goal.returns-else-zeros-2
unfolding variable_fields
returns-else-zeros-2 c = grind (arith, common_steps)
