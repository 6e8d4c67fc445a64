-- `sections::assignment_fields` meets its contract.
-- Assumes nothing.
use Rattle.std.proofs.Common.{arith}
use Rattle.std.proofs.lemmas.Grind.{common_steps}
use Rattle.sections.specs.Section.{assignment_fields}
use Rattle.sections.proofs.assignment_fields.Goals as goal

pub returns-then-from-vars : goal.returns-then-from-vars
unfolding assignment_fields
returns-then-from-vars c = grind (arith, common_steps)

pub returns-else-from-vars : goal.returns-else-from-vars
unfolding assignment_fields
returns-else-from-vars c = grind (arith, common_steps)
