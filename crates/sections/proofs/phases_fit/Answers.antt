-- `sections::phases_fit` meets its contract.
-- Assumes nothing.
use Rattle.std.proofs.Common.{arith}
use Rattle.std.proofs.lemmas.Grind.{common_steps}
use Rattle.sections.specs.Section.{phases_fit}
use Rattle.sections.proofs.phases_fit.Goals as goal

pub returns-then-phased : goal.returns-then-phased
unfolding phases_fit
returns-then-phased c = grind (arith, common_steps)

pub returns-else-phased : goal.returns-else-phased
unfolding phases_fit
returns-else-phased c = grind (arith, common_steps)
