-- `sections::expressions` meets its contract.
-- Assumes nothing.
use Rattle.std.proofs.Common.{arith}
use Rattle.std.proofs.lemmas.Grind.{common_steps}
use Rattle.sections.specs.Section.{expressions_of}
use Rattle.sections.proofs.expressions.Goals as goal

pub returns-then-property : goal.returns-then-property
unfolding expressions_of
returns-then-property c = grind (arith, common_steps)

pub returns-else-property : goal.returns-else-property
unfolding expressions_of
returns-else-property c = grind (arith, common_steps)
