-- `parsing::parse_transitions` meets its contract: the transitions are counted, then what follows.
-- Assumes nothing.
use Rattle.std.proofs.Common.{arith}
use Rattle.std.proofs.lemmas.Grind.{common_steps}
use Rattle.parsing.specs.Outline.{transitions_parsed}
use Rattle.parsing.proofs.parse_transitions.Goals as goal

pub returns-in_err-transitions : goal.returns-in_err-transitions
unfolding transitions_parsed
returns-in_err-transitions c = grind (arith, common_steps)

pub returns : goal.returns
unfolding transitions_parsed
returns c = grind (arith, common_steps)
