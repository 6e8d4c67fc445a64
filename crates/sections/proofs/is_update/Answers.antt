-- `sections::is_update` meets its contract.
-- Assumes nothing.
use Rattle.std.proofs.Common.{arith}
use Rattle.std.proofs.lemmas.Grind.{common_steps}
use Rattle.sections.specs.Section.{is_update}
use Rattle.sections.proofs.is_update.Goals as goal

pub returns-then-kind_is : goal.returns-then-kind_is
unfolding is_update
returns-then-kind_is c = grind (arith, common_steps)

pub returns-else-kind_is : goal.returns-else-kind_is
unfolding is_update
returns-else-kind_is c = grind (arith, common_steps)
