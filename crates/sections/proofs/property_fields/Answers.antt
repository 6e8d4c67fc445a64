-- `sections::property_fields` meets its contract.
-- Assumes nothing.
use Rattle.std.proofs.Common.{arith}
use Rattle.std.proofs.lemmas.Grind.{common_steps}
use Rattle.sections.specs.Section.{property_fields}
use Rattle.sections.proofs.property_fields.Goals as goal

pub returns-then-phases_fit : goal.returns-then-phases_fit
unfolding property_fields
returns-then-phases_fit c = grind (arith, common_steps)

pub returns-else-phases_fit : goal.returns-else-phases_fit
unfolding property_fields
returns-else-phases_fit c = grind (arith, common_steps)
