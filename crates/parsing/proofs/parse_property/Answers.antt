-- `parsing::parse_property` meets its contract: its record is tested, then its expressions, then what follows.
-- Assumes nothing.
use mathlib.Core.Path.{sym}
use Rattle.std.proofs.Common.{arith}
use Rattle.std.proofs.lemmas.Grind.{common_steps}
use Rattle.records.proofs.Laws.Record.{kind_is_lem}
use Rattle.parsing.specs.Outline.{property_parsed}
use Rattle.parsing.proofs.parse_property.Goals as goal

pub returns-then-not-kind_is : goal.returns-then-not-kind_is
unfolding property_parsed
returns-then-not-kind_is c = grind (arith, common_steps)

pub returns-then-not-property_fields : goal.returns-then-not-property_fields
unfolding property_parsed
returns-then-not-property_fields c = grind (arith, common_steps)

pub returns-in_err-node : goal.returns-in_err-node
unfolding property_parsed
returns-in_err-node c = grind (arith, common_steps)

pub returns : goal.returns
unfolding property_parsed
returns c = grind (arith, common_steps)

pub property_fields-requires : goal.property_fields-requires
property_fields-requires c = omega (arith, (kind_is_lem _ _ _ (sym c.if-not-kind_is.ensures)).0)

pub expressions-requires : goal.expressions-requires
expressions-requires c = omega (arith, (kind_is_lem _ _ _ (sym c.if-not-kind_is.ensures)).0)

pub overflow_add-property : goal.overflow_add-property
overflow_add-property c = omega (arith, (kind_is_lem _ _ _ (sym c.if-not-kind_is.ensures)).0)

pub parse_nodes-requires : goal.parse_nodes-requires
parse_nodes-requires c = omega (arith, (kind_is_lem _ _ _ (sym c.if-not-kind_is.ensures)).0)
