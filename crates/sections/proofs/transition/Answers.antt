-- `sections::transition` meets its contract: where the guard ends, the updates say the rest.
-- Assumes nothing.
use Rattle.std.proofs.Common.{arith}
use Rattle.std.proofs.lemmas.Grind.{common_steps}
use Rattle.sections.specs.Section.{transition_of}
use Rattle.sections.proofs.transition.Goals as goal

pub returns-in_err-walk_sort : goal.returns-in_err-walk_sort
unfolding transition_of
returns-in_err-walk_sort c = grind (arith, common_steps)

pub returns : goal.returns
unfolding transition_of
returns c = grind (arith, common_steps)
