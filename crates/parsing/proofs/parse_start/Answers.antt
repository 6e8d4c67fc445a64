-- `parsing::parse_start` meets its contract: its record is tested, then its expression, then what follows.
-- Assumes nothing.
use mathlib.Core.Path.{sym}
use Rattle.std.proofs.Common.{arith}
use Rattle.std.proofs.lemmas.Grind.{common_steps}
use Rattle.records.proofs.Laws.Record.{kind_is_lem}
use Rattle.parsing.specs.Outline.{start_parsed}
use Rattle.parsing.proofs.parse_start.Goals as goal

pub returns-then-vars-lt1 : goal.returns-then-vars-lt1
unfolding start_parsed
returns-then-vars-lt1 c = grind (arith, common_steps)

pub returns-then-not-zeros : goal.returns-then-not-zeros
unfolding start_parsed
returns-then-not-zeros c = grind (arith, common_steps)

pub returns-in_err-walk_sort : goal.returns-in_err-walk_sort
unfolding start_parsed
returns-in_err-walk_sort c = grind (arith, common_steps)

pub returns : goal.returns
unfolding start_parsed
returns c = grind (arith, common_steps)

pub overflow_mul-at : goal.overflow_mul-at
overflow_mul-at c = omega (arith, (kind_is_lem _ _ _ (sym c.if-not-kind_is.ensures)).0)

pub overflow_add-at : goal.overflow_add-at
overflow_add-at c = omega (arith, (kind_is_lem _ _ _ (sym c.if-not-kind_is.ensures)).0)

pub zeros-requires : goal.zeros-requires
zeros-requires c = omega (arith, (kind_is_lem _ _ _ (sym c.if-not-kind_is.ensures)).0)

pub overflow_add-at-2 : goal.overflow_add-at-2
overflow_add-at-2 c = omega (arith, (kind_is_lem _ _ _ (sym c.if-not-kind_is.ensures)).0)
