-- `sections::edge_fields` meets its contract.
-- Assumes nothing.
use Rattle.std.proofs.Common.{arith}
use Rattle.std.proofs.lemmas.Grind.{common_steps}
use Rattle.sections.specs.Section.{edge_fields}
use Rattle.sections.proofs.edge_fields.Goals as goal

pub returns-then-file-base-le1 : goal.returns-then-file-base-le1
unfolding edge_fields
returns-then-file-base-le1 c = grind (arith, common_steps)

pub returns-else-file-base-le1 : goal.returns-else-file-base-le1
unfolding edge_fields
returns-else-file-base-le1 c = grind (arith, common_steps)
