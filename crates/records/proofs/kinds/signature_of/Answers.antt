-- `records::kinds::signature_of` meets its contract: at each return the tests passed say in which range the kind lies, and so its form.
-- Assumes nothing.
use mathlib.Core.Path.{sym, ◌∙◌}
use native.Mathlib.Omega.{arith}
use Rattle.records.proofs.Laws.Kind.{arithmetic_form, indicator_form, division_form, literal_form, negation_form, connective_form}
use Rattle.records.proofs.Laws.Kind.{comparison_form, unfit_below, unfit_between, unfit_behind, unfit_above, signature_by, leaf_signature}
use Rattle.records.proofs.kinds.signature_of.Goals as goal

pub returns-in-21 : goal.returns-in-21
returns-in-21 c = c.row.ensures ∙ sym (signature_by _ (indicator_form (omega arith)))

pub returns-in-34 : goal.returns-in-34
returns-in-34 c = c.row-in-34.ensures ∙ sym (signature_by _ (negation_form (omega arith)))

pub returns-in-16-to-17 : goal.returns-in-16-to-17
returns-in-16-to-17 c = c.row-in-16-to-17.ensures ∙ sym (leaf_signature (omega arith) (omega arith))

pub returns-in-18-to-20 : goal.returns-in-18-to-20
returns-in-18-to-20 c = c.row-in-18-to-20.ensures ∙ sym (signature_by _ (arithmetic_form (omega arith) (omega arith)))

pub returns-in-24-to-25 : goal.returns-in-24-to-25
returns-in-24-to-25 c = c.row-in-24-to-25.ensures ∙ sym (signature_by _ (division_form (omega arith) (omega arith)))

pub returns-in-32-to-33 : goal.returns-in-32-to-33
returns-in-32-to-33 c = c.row-in-32-to-33.ensures ∙ sym (signature_by _ (literal_form (omega arith) (omega arith)))

pub returns-in-35-to-38 : goal.returns-in-35-to-38
returns-in-35-to-38 c = c.row-in-35-to-38.ensures ∙ sym (signature_by _ (connective_form (omega arith) (omega arith)))

pub returns-in-39-to-41 : goal.returns-in-39-to-41
returns-in-39-to-41 c = c.row-in-39-to-41.ensures ∙ sym (signature_by _ (comparison_form (omega arith) (omega arith)))

pub returns-in_default : goal.returns-in_default
returns-in_default c = sym (signature_by _ (unfit_below (omega arith)))

pub returns-in_default-2 : goal.returns-in_default-2
returns-in_default-2 c = sym (signature_by _ (unfit_between (omega arith) (omega arith)))

pub returns-in_default-3 : goal.returns-in_default-3
returns-in_default-3 c = sym (signature_by _ (unfit_behind (omega arith) (omega arith)))

pub returns-in_default-4 : goal.returns-in_default-4
returns-in_default-4 c = sym (signature_by _ (unfit_above (omega arith)))
