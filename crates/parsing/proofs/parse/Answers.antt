-- `parsing::parse` meets its contract: the length is tested, then the variables are counted, then what follows.
-- Assumes nothing.
use mathlib.Core.Path.{sym, ◌∙◌}
use Rattle.std.proofs.Common.{arith}
use Rattle.std.proofs.lemmas.Grind.{common_steps}
use Rattle.sections.proofs.Laws.Counted.{variables_limit}
use Rattle.parsing.specs.Outline.{parsed_of}
use Rattle.parsing.proofs.parse.Goals as goal

pub returns-then-file-ne0 : goal.returns-then-file-ne0
unfolding parsed_of
returns-then-file-ne0 c = grind (arith, common_steps)

pub returns-in_err-variables : goal.returns-in_err-variables
unfolding parsed_of
returns-in_err-variables c = grind (arith, common_steps)

pub returns : goal.returns
unfolding parsed_of
returns c = grind (arith, common_steps)

pub parse_start-requires : goal.parse_start-requires
parse_start-requires c = variables_limit _ _ _ (sym c.variables.ensures ∙ c.in_ok-variables.was)
