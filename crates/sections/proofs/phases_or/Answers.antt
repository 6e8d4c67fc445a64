-- `sections::phases_or` meets its contract.
-- Assumes nothing.
use Rattle.std.proofs.Common.{arith}
use Rattle.std.proofs.lemmas.Grind.{common_steps}
use Rattle.sections.specs.Section.{phases_or}
use Rattle.sections.proofs.phases_or.Goals as goal

pub returns-then-property : goal.returns-then-property
unfolding phases_or
returns-then-property c = grind (arith, common_steps)

pub returns-else-property : goal.returns-else-property
unfolding phases_or
returns-else-property c = grind (arith, common_steps)
