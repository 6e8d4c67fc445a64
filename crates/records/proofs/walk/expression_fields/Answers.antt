-- `records::walk::expression_fields` meets its contract: at each return the tests passed pick the case of `expression_fields`.
-- Assumes nothing.
use borrow.Author.Tests.{eq-eqb, ne_eqb, lt-ltb, le-ltb}
use mathlib.Core.Path.{◌≡◌, sym, ◌∙◌}
use Rattle.records.specs.Record.{kind_at}
use Rattle.records.specs.Walk.{expression_fields}
use Rattle.records.proofs.walk.expression_fields.Goals as goal

pub returns-then-zeros : goal.returns-then-zeros
unfolding expression_fields
returns-then-zeros c = simp (eq-eqb _ _ c.in-16.is, sym c.zeros.ensures ∙ c.if-zeros.true) c.zeros-then-zeros.ensures

pub returns-else-zeros : goal.returns-else-zeros
unfolding expression_fields
returns-else-zeros c = simp (eq-eqb _ _ c.in-16.is, sym c.zeros.ensures ∙ c.if-zeros.false) c.if-zeros.false

pub returns-then-from-vars : goal.returns-then-from-vars
unfolding expression_fields
returns-then-from-vars c = let k : kind_at c.args.file.now c.args.at ≡ 17 = c.in-17.is in simp (k, sym c.from.ensures, lt-ltb _ _ c.if-from-vars.true) c.zeros-then-from-vars.ensures

pub returns-else-from-vars : goal.returns-else-from-vars
unfolding expression_fields
returns-else-from-vars c = let k : kind_at c.args.file.now c.args.at ≡ 17 = c.in-17.is in simp (k, sym c.from.ensures, le-ltb _ _ c.if-from-vars.false)

pub returns-in_default : goal.returns-in_default
unfolding expression_fields
returns-in_default c = simp (ne_eqb _ _ c.in_default.in_default-own.rest.0.1, ne_eqb _ _ c.in_default.in_default-own.rest.1) c.zeros-in_default.ensures
