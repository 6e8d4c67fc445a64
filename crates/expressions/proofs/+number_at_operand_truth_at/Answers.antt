-- The evaluators meet their contracts, by the kind of the record. The measure is the levels left; at one level `operand` comes before `number_at`.
-- Assumes nothing.
use mathlib.Core.Path.{refl, sym, ◌∙◌}
use native.Mathlib.Omega.{arith}
use borrow.Author.Rules.{rules}
use lib.IntN.{pos, ◌+ℤ◌, ◌-ℤ◌, ◌*ℤ◌}
use lib.ListN.{get_or}
use mir.Syntax.{w16, w64}
use Rattle.integers.proofs.Laws.Parts.{back}
use Rattle.integers.proofs.Laws.Bounds.{sum_fits, difference_fits, product_fits, op_fits, op_back}
use Rattle.records.specs.Record.{field_a}
use Rattle.records.proofs.Laws.Kind.{constant_form, variable_form, indicator_form, literal_form, negation_form}
use Rattle.intervals.proofs.Laws.Combine.{combine_sum, combine_difference, combine_product}
use Rattle.expressions.specs.Expression.{connect_of}
use Rattle.expressions.proofs.Laws.Expression.{fits_level, fits_record, divisor_above}
use Rattle.expressions.proofs.Laws.Operand.{number_kinds, truth_kinds, one, combined, divided, connected, compared}
use Rattle.expressions.proofs.Steps.Expression.{left_small, right_small, constant_is, variable_is, arithmetic_is, indicator_is, division_is}
use Rattle.expressions.proofs.Steps.Expression.{literal_is, negation_is, connective_is, decided_is, comparison_is}
use Rattle.expressions.proofs.+number_at_operand_truth_at.Goals as goal

-- ---- `number_at`

pub number_at-bounds-part-0 : goal.number_at-bounds-part-0
number_at-bounds-part-0 t c = omega (arith, (fits_record _ _ _ _ c.requires.fits).there)

pub number_at-overflow_sub-below : goal.number_at-overflow_sub-below
number_at-overflow_sub-below t c = omega (arith, fits_level _ _ _ _ c.requires.fits)

pub number_at-after-rest-requires : goal.number_at-after-rest-requires
number_at-after-rest-requires t c = (fits_record _ _ _ _ c.requires.fits).there

pub number_at-constant-requires : goal.number_at-constant-requires
number_at-constant-requires t c = (fits_record _ _ _ _ c.requires.fits).there

pub number_at-bounds-part-1 : goal.number_at-bounds-part-1
number_at-bounds-part-1 t c = omega (arith, (fits_record _ _ _ _ c.requires.fits).there)

pub number_at-bounds-state-part : goal.number_at-bounds-state-part
number_at-bounds-state-part t c = (fits_record _ _ _ _ c.requires.fits).variable (variable_form c.in-17.is)

pub number_at-operand-x-requires : goal.number_at-operand-x-requires
number_at-operand-x-requires t c =
    let s = combined c.requires.fits c.requires.room c.requires.spans c.after-rest.ensures (omega arith) (omega arith) in
    (omega (arith, s.level), s.left)

pub number_at-bounds-spans-first : goal.number_at-bounds-spans-first
number_at-bounds-spans-first t c = (combined c.requires.fits c.requires.room c.requires.spans c.after-rest.ensures (omega arith) (omega arith)).entry

pub number_at-after-requires : goal.number_at-after-requires
number_at-after-requires t c = (combined c.requires.fits c.requires.room c.requires.spans c.after-rest.ensures (omega arith) (omega arith)).within

pub number_at-operand-requires : goal.number_at-operand-requires
number_at-operand-requires t c =
    let s = combined c.requires.fits c.requires.room c.requires.spans c.after-rest.ensures (omega arith) (omega arith) in
    (omega (arith, s.level), s.right c.after.ensures)

pub number_at-overflow_add-result : goal.number_at-overflow_add-result
number_at-overflow_add-result t c =
    let s = combined c.requires.fits c.requires.room c.requires.spans c.after-rest.ensures (omega arith) (omega arith) in
    op_fits ◌+ℤ◌ sum_fits (left_small s c.operand-x.ensures) (right_small s c.after.ensures c.operand.ensures)

pub number_at-returns-in-18 : goal.number_at-returns-in-18
number_at-returns-in-18 t c =
    let s = combined c.requires.fits c.requires.room c.requires.spans c.after-rest.ensures (omega arith) (omega arith) in
    rw (op_back ◌+ℤ◌ sum_fits (left_small s c.operand-x.ensures) (right_small s c.after.ensures c.operand.ensures))
    (sym (combine_sum _ _) ∙ arithmetic_is s c.in-18.is c.after.ensures c.operand-x.ensures c.operand.ensures refl)

pub number_at-operand-x-requires-in-19 : goal.number_at-operand-x-requires-in-19
number_at-operand-x-requires-in-19 t c =
    let s = combined c.requires.fits c.requires.room c.requires.spans c.after-rest.ensures (omega arith) (omega arith) in
    (omega (arith, s.level), s.left)

pub number_at-bounds-spans-first-in-19 : goal.number_at-bounds-spans-first-in-19
number_at-bounds-spans-first-in-19 t c = (combined c.requires.fits c.requires.room c.requires.spans c.after-rest.ensures (omega arith) (omega arith)).entry

pub number_at-after-requires-in-19 : goal.number_at-after-requires-in-19
number_at-after-requires-in-19 t c = (combined c.requires.fits c.requires.room c.requires.spans c.after-rest.ensures (omega arith) (omega arith)).within

pub number_at-operand-requires-in-19 : goal.number_at-operand-requires-in-19
number_at-operand-requires-in-19 t c =
    let s = combined c.requires.fits c.requires.room c.requires.spans c.after-rest.ensures (omega arith) (omega arith) in
    (omega (arith, s.level), s.right c.after-in-19.ensures)

pub number_at-overflow_sub-result : goal.number_at-overflow_sub-result
number_at-overflow_sub-result t c =
    let s = combined c.requires.fits c.requires.room c.requires.spans c.after-rest.ensures (omega arith) (omega arith) in
    op_fits ◌-ℤ◌ difference_fits (left_small s c.operand-x-in-19.ensures) (right_small s c.after-in-19.ensures c.operand-in-19.ensures)

pub number_at-returns-in-19 : goal.number_at-returns-in-19
number_at-returns-in-19 t c =
    let s = combined c.requires.fits c.requires.room c.requires.spans c.after-rest.ensures (omega arith) (omega arith) in
    rw (op_back ◌-ℤ◌ difference_fits (left_small s c.operand-x-in-19.ensures) (right_small s c.after-in-19.ensures c.operand-in-19.ensures))
    (sym (combine_difference _ _) ∙ arithmetic_is s c.in-19.is c.after-in-19.ensures c.operand-x-in-19.ensures c.operand-in-19.ensures refl)

pub number_at-operand-x-requires-in-20 : goal.number_at-operand-x-requires-in-20
number_at-operand-x-requires-in-20 t c =
    let s = combined c.requires.fits c.requires.room c.requires.spans c.after-rest.ensures (omega arith) (omega arith) in
    (omega (arith, s.level), s.left)

pub number_at-bounds-spans-first-in-20 : goal.number_at-bounds-spans-first-in-20
number_at-bounds-spans-first-in-20 t c = (combined c.requires.fits c.requires.room c.requires.spans c.after-rest.ensures (omega arith) (omega arith)).entry

pub number_at-after-requires-in-20 : goal.number_at-after-requires-in-20
number_at-after-requires-in-20 t c = (combined c.requires.fits c.requires.room c.requires.spans c.after-rest.ensures (omega arith) (omega arith)).within

pub number_at-operand-requires-in-20 : goal.number_at-operand-requires-in-20
number_at-operand-requires-in-20 t c =
    let s = combined c.requires.fits c.requires.room c.requires.spans c.after-rest.ensures (omega arith) (omega arith) in
    (omega (arith, s.level), s.right c.after-in-20.ensures)

pub number_at-overflow_mul-result : goal.number_at-overflow_mul-result
number_at-overflow_mul-result t c =
    let s = combined c.requires.fits c.requires.room c.requires.spans c.after-rest.ensures (omega arith) (omega arith) in
    op_fits ◌*ℤ◌ product_fits (left_small s c.operand-x-in-20.ensures) (right_small s c.after-in-20.ensures c.operand-in-20.ensures)

pub number_at-returns-in-20 : goal.number_at-returns-in-20
number_at-returns-in-20 t c =
    let s = combined c.requires.fits c.requires.room c.requires.spans c.after-rest.ensures (omega arith) (omega arith) in
    rw (op_back ◌*ℤ◌ product_fits (left_small s c.operand-x-in-20.ensures) (right_small s c.after-in-20.ensures c.operand-in-20.ensures))
    (sym (combine_product _ _) ∙ arithmetic_is s c.in-20.is c.after-in-20.ensures c.operand-x-in-20.ensures c.operand-in-20.ensures refl)

pub number_at-truth_at-requires : goal.number_at-truth_at-requires
number_at-truth_at-requires t c =
    let l = fits_level _ _ _ _ c.requires.fits in
    (omega arith, one _ _ _ _ _ _ (c.requires.fits, (c.requires.room, c.requires.spans)) (indicator_form c.in-21.is) c.after-rest.ensures refl)

pub number_at-operand-x-requires-in-24-to-25 : goal.number_at-operand-x-requires-in-24-to-25
number_at-operand-x-requires-in-24-to-25 t c =
    let s = divided c.requires.fits c.requires.room c.requires.spans c.after-rest.ensures (omega arith) (omega arith) in
    (omega (arith, s.level), s.left)

pub number_at-bounds-spans-first-in-24-to-25 : goal.number_at-bounds-spans-first-in-24-to-25
number_at-bounds-spans-first-in-24-to-25 t c = (divided c.requires.fits c.requires.room c.requires.spans c.after-rest.ensures (omega arith) (omega arith)).entry

pub number_at-after-requires-in-24-to-25 : goal.number_at-after-requires-in-24-to-25
number_at-after-requires-in-24-to-25 t c = (divided c.requires.fits c.requires.room c.requires.spans c.after-rest.ensures (omega arith) (omega arith)).within

pub number_at-constant-requires-in-24-to-25 : goal.number_at-constant-requires-in-24-to-25
number_at-constant-requires-in-24-to-25 t c = (fits_record _ _ _ _ ((divided c.requires.fits c.requires.room c.requires.spans c.after-rest.ensures (omega arith) (omega arith)).right c.after-in-24-to-25.ensures).0).there

pub number_at-divide-requires : goal.number_at-divide-requires
number_at-divide-requires t c =
    let k = c.constant-in-24-to-25 in
    rw (back w64 k.result k.type_inv, k.ensures) (divisor_above _ _ _ ((divided c.requires.fits c.requires.room c.requires.spans c.after-rest.ensures (omega arith) (omega arith)).right c.after-in-24-to-25.ensures).0)

pub number_at-returns-in-16 : goal.number_at-returns-in-16
number_at-returns-in-16 t c = rw (back w64 c.constant.result c.constant.type_inv, c.constant.ensures) (constant_is _ _ _ _ _ _ (c.requires.fits, (c.requires.room, c.requires.spans)) (constant_form c.in-16.is))

pub number_at-returns-in-17 : goal.number_at-returns-in-17
number_at-returns-in-17 t c =
    rw (back w64 c.from.result c.from.type_inv, c.from.ensures, back w16 (get_or c.args.state (field_a c.args.part.now 0) (pos 0)) (search rules))
    (variable_is _ _ _ _ _ _ (c.requires.fits, (c.requires.room, c.requires.spans)) (variable_form c.in-17.is))

pub number_at-returns-in-21 : goal.number_at-returns-in-21
number_at-returns-in-21 t c =
    rw (back w64 c.from-in-21.result c.from-in-21.type_inv, c.from-in-21.ensures)
    (indicator_is _ _ _ _ _ _ (c.requires.fits, (c.requires.room, c.requires.spans)) c.after-rest.ensures c.truth_at.ensures (indicator_form c.in-21.is))

pub number_at-returns-in-24-to-25 : goal.number_at-returns-in-24-to-25
number_at-returns-in-24-to-25 t c =
    let x = c.operand-x-in-24-to-25 in
    let k = c.constant-in-24-to-25 in
    rw (back w64 c.divide.result c.divide.type_inv, c.divide.ensures, back w64 x.result x.type_inv, back w64 k.result k.type_inv, k.ensures)
    (division_is (divided c.requires.fits c.requires.room c.requires.spans c.after-rest.ensures (omega arith) (omega arith)) c.after-in-24-to-25.ensures refl x.ensures)

pub number_at-returns-in_default : goal.number_at-returns-in_default
number_at-returns-in_default t c = let k = number_kinds _ _ _ c.requires.fits in absurd (omega (arith, k.2 (omega arith)))

pub number_at-returns-in_default-2 : goal.number_at-returns-in_default-2
number_at-returns-in_default-2 t c = let k = number_kinds _ _ _ c.requires.fits in absurd (omega arith)

-- ---- `operand`

pub operand-bounds-part-0 : goal.operand-bounds-part-0
operand-bounds-part-0 t c = omega (arith, (fits_record _ _ _ _ c.requires.fits).there)

pub operand-constant-requires : goal.operand-constant-requires
operand-constant-requires t c = (fits_record _ _ _ _ c.requires.fits).there

pub operand-bounds-part-1 : goal.operand-bounds-part-1
operand-bounds-part-1 t c = omega (arith, (fits_record _ _ _ _ c.requires.fits).there)

pub operand-bounds-state-part : goal.operand-bounds-state-part
operand-bounds-state-part t c = (fits_record _ _ _ _ c.requires.fits).variable (variable_form c.in-17.is)

pub operand-returns-in-16 : goal.operand-returns-in-16
operand-returns-in-16 t c = rw (back w64 c.constant.result c.constant.type_inv, c.constant.ensures) (constant_is _ _ _ _ _ _ (c.requires.fits, (c.requires.room, c.requires.spans)) (constant_form c.in-16.is))

pub operand-returns-in-17 : goal.operand-returns-in-17
operand-returns-in-17 t c =
    rw (back w64 c.from.result c.from.type_inv, c.from.ensures, back w16 (get_or c.args.state (field_a c.args.part.now 0) (pos 0)) (search rules))
    (variable_is _ _ _ _ _ _ (c.requires.fits, (c.requires.room, c.requires.spans)) (variable_form c.in-17.is))

-- ---- `truth_at`

pub truth_at-bounds-part-0 : goal.truth_at-bounds-part-0
truth_at-bounds-part-0 t c = omega (arith, (fits_record _ _ _ _ c.requires.fits).there)

pub truth_at-overflow_sub-below : goal.truth_at-overflow_sub-below
truth_at-overflow_sub-below t c = omega (arith, fits_level _ _ _ _ c.requires.fits)

pub truth_at-after-rest-requires : goal.truth_at-after-rest-requires
truth_at-after-rest-requires t c = (fits_record _ _ _ _ c.requires.fits).there

pub truth_at-truth_at-requires : goal.truth_at-truth_at-requires
truth_at-truth_at-requires t c =
    let l = fits_level _ _ _ _ c.requires.fits in
    (omega arith, one _ _ _ _ _ _ (c.requires.fits, (c.requires.room, c.requires.spans)) (negation_form c.in-34.is) c.after-rest.ensures refl)

pub truth_at-truth_at-requires-in-35 : goal.truth_at-truth_at-requires-in-35
truth_at-truth_at-requires-in-35 t c =
    let s = connected c.requires.fits c.requires.room c.requires.spans c.after-rest.ensures (omega arith) (omega arith) in
    (omega (arith, s.level), s.left)

pub truth_at-bounds-spans-first : goal.truth_at-bounds-spans-first
truth_at-bounds-spans-first t c = (connected c.requires.fits c.requires.room c.requires.spans c.after-rest.ensures (omega arith) (omega arith)).entry

pub truth_at-after-requires : goal.truth_at-after-requires
truth_at-after-requires t c = (connected c.requires.fits c.requires.room c.requires.spans c.after-rest.ensures (omega arith) (omega arith)).within

pub truth_at-truth_at-requires-in-35-2 : goal.truth_at-truth_at-requires-in-35-2
truth_at-truth_at-requires-in-35-2 t c =
    let s = connected c.requires.fits c.requires.room c.requires.spans c.after-rest.ensures (omega arith) (omega arith) in
    (omega (arith, s.level), s.right c.after.ensures)

pub truth_at-returns-then-not-truth_at : goal.truth_at-returns-then-not-truth_at
unfolding connect_of
truth_at-returns-then-not-truth_at t c = decided_is (connected c.requires.fits c.requires.room c.requires.spans c.after-rest.ensures (omega arith) (omega arith)) c.in-35.is (sym c.if-not-truth_at.true ∙ c.truth_at-in-35.ensures) refl

pub truth_at-returns-else-not-truth_at : goal.truth_at-returns-else-not-truth_at
unfolding connect_of
truth_at-returns-else-not-truth_at t c =
    connective_is (connected c.requires.fits c.requires.room c.requires.spans c.after-rest.ensures (omega arith) (omega arith)) c.in-35.is c.after.ensures (sym c.if-not-truth_at.false ∙ c.truth_at-in-35.ensures)
    c.truth_at-in-35-2.ensures refl

pub truth_at-truth_at-requires-in-36 : goal.truth_at-truth_at-requires-in-36
truth_at-truth_at-requires-in-36 t c =
    let s = connected c.requires.fits c.requires.room c.requires.spans c.after-rest.ensures (omega arith) (omega arith) in
    (omega (arith, s.level), s.left)

pub truth_at-bounds-spans-first-in-36 : goal.truth_at-bounds-spans-first-in-36
truth_at-bounds-spans-first-in-36 t c = (connected c.requires.fits c.requires.room c.requires.spans c.after-rest.ensures (omega arith) (omega arith)).entry

pub truth_at-after-requires-in-36 : goal.truth_at-after-requires-in-36
truth_at-after-requires-in-36 t c = (connected c.requires.fits c.requires.room c.requires.spans c.after-rest.ensures (omega arith) (omega arith)).within

pub truth_at-truth_at-requires-in-36-2 : goal.truth_at-truth_at-requires-in-36-2
truth_at-truth_at-requires-in-36-2 t c =
    let s = connected c.requires.fits c.requires.room c.requires.spans c.after-rest.ensures (omega arith) (omega arith) in
    (omega (arith, s.level), s.right c.after-in-36.ensures)

pub truth_at-returns-then-truth_at : goal.truth_at-returns-then-truth_at
unfolding connect_of
truth_at-returns-then-truth_at t c = decided_is (connected c.requires.fits c.requires.room c.requires.spans c.after-rest.ensures (omega arith) (omega arith)) c.in-36.is (sym c.if-truth_at.true ∙ c.truth_at-in-36.ensures) refl

pub truth_at-returns-else-truth_at : goal.truth_at-returns-else-truth_at
unfolding connect_of
truth_at-returns-else-truth_at t c =
    connective_is (connected c.requires.fits c.requires.room c.requires.spans c.after-rest.ensures (omega arith) (omega arith)) c.in-36.is c.after-in-36.ensures (sym c.if-truth_at.false ∙ c.truth_at-in-36.ensures)
    c.truth_at-in-36-2.ensures refl

pub truth_at-truth_at-requires-in-37 : goal.truth_at-truth_at-requires-in-37
truth_at-truth_at-requires-in-37 t c =
    let s = connected c.requires.fits c.requires.room c.requires.spans c.after-rest.ensures (omega arith) (omega arith) in
    (omega (arith, s.level), s.left)

pub truth_at-bounds-spans-first-in-37 : goal.truth_at-bounds-spans-first-in-37
truth_at-bounds-spans-first-in-37 t c = (connected c.requires.fits c.requires.room c.requires.spans c.after-rest.ensures (omega arith) (omega arith)).entry

pub truth_at-after-requires-in-37 : goal.truth_at-after-requires-in-37
truth_at-after-requires-in-37 t c = (connected c.requires.fits c.requires.room c.requires.spans c.after-rest.ensures (omega arith) (omega arith)).within

pub truth_at-truth_at-requires-in-37-2 : goal.truth_at-truth_at-requires-in-37-2
truth_at-truth_at-requires-in-37-2 t c =
    let s = connected c.requires.fits c.requires.room c.requires.spans c.after-rest.ensures (omega arith) (omega arith) in
    (omega (arith, s.level), s.right c.after-in-37.ensures)

pub truth_at-returns-then-not-truth_at-2 : goal.truth_at-returns-then-not-truth_at-2
unfolding connect_of
truth_at-returns-then-not-truth_at-2 t c = decided_is (connected c.requires.fits c.requires.room c.requires.spans c.after-rest.ensures (omega arith) (omega arith)) c.in-37.is (sym c.if-not-truth_at-2.true ∙ c.truth_at-in-37.ensures) refl

pub truth_at-returns-else-not-truth_at-2 : goal.truth_at-returns-else-not-truth_at-2
unfolding connect_of
truth_at-returns-else-not-truth_at-2 t c =
    connective_is (connected c.requires.fits c.requires.room c.requires.spans c.after-rest.ensures (omega arith) (omega arith)) c.in-37.is c.after-in-37.ensures (sym c.if-not-truth_at-2.false ∙ c.truth_at-in-37.ensures)
    c.truth_at-in-37-2.ensures refl

pub truth_at-truth_at-p-requires : goal.truth_at-truth_at-p-requires
truth_at-truth_at-p-requires t c =
    let s = connected c.requires.fits c.requires.room c.requires.spans c.after-rest.ensures (omega arith) (omega arith) in
    (omega (arith, s.level), s.left)

pub truth_at-bounds-spans-first-in-38 : goal.truth_at-bounds-spans-first-in-38
truth_at-bounds-spans-first-in-38 t c = (connected c.requires.fits c.requires.room c.requires.spans c.after-rest.ensures (omega arith) (omega arith)).entry

pub truth_at-after-requires-in-38 : goal.truth_at-after-requires-in-38
truth_at-after-requires-in-38 t c = (connected c.requires.fits c.requires.room c.requires.spans c.after-rest.ensures (omega arith) (omega arith)).within

pub truth_at-truth_at-requires-in-38 : goal.truth_at-truth_at-requires-in-38
truth_at-truth_at-requires-in-38 t c =
    let s = connected c.requires.fits c.requires.room c.requires.spans c.after-rest.ensures (omega arith) (omega arith) in
    (omega (arith, s.level), s.right c.after-in-38.ensures)

pub truth_at-returns-in-38 : goal.truth_at-returns-in-38
unfolding connect_of
truth_at-returns-in-38 t c = connective_is (connected c.requires.fits c.requires.room c.requires.spans c.after-rest.ensures (omega arith) (omega arith)) c.in-38.is c.after-in-38.ensures c.truth_at-p.ensures c.truth_at-in-38.ensures refl

pub truth_at-operand-x-requires : goal.truth_at-operand-x-requires
truth_at-operand-x-requires t c =
    let s = compared c.requires.fits c.requires.room c.requires.spans c.after-rest.ensures (omega arith) in
    (omega (arith, s.level), s.left)

pub truth_at-bounds-spans-first-in-39-to-41 : goal.truth_at-bounds-spans-first-in-39-to-41
truth_at-bounds-spans-first-in-39-to-41 t c = (compared c.requires.fits c.requires.room c.requires.spans c.after-rest.ensures (omega arith)).entry

pub truth_at-after-requires-in-39-to-41 : goal.truth_at-after-requires-in-39-to-41
truth_at-after-requires-in-39-to-41 t c = (compared c.requires.fits c.requires.room c.requires.spans c.after-rest.ensures (omega arith)).within

pub truth_at-operand-y-requires : goal.truth_at-operand-y-requires
truth_at-operand-y-requires t c =
    let s = compared c.requires.fits c.requires.room c.requires.spans c.after-rest.ensures (omega arith) in
    (omega (arith, s.level), s.right c.after-in-39-to-41.ensures)

pub truth_at-returns-in-32 : goal.truth_at-returns-in-32
truth_at-returns-in-32 t c = literal_is _ _ _ _ _ _ (c.requires.fits, (c.requires.room, c.requires.spans)) c.in-32.is (literal_form (omega arith) (omega arith))

pub truth_at-returns-in-34 : goal.truth_at-returns-in-34
truth_at-returns-in-34 t c = negation_is _ _ _ _ _ _ (c.requires.fits, (c.requires.room, c.requires.spans)) c.after-rest.ensures c.truth_at.ensures (negation_form c.in-34.is)

pub truth_at-returns-in-39-to-41 : goal.truth_at-returns-in-39-to-41
truth_at-returns-in-39-to-41 t c =
    let x = c.operand-x in
    let y = c.operand-y in
    (rw (back w64 x.result x.type_inv, back w64 y.result y.type_inv) at c.compare.ensures)
    ∙ comparison_is (compared c.requires.fits c.requires.room c.requires.spans c.after-rest.ensures (omega arith)) refl c.after-in-39-to-41.ensures x.ensures y.ensures refl

pub truth_at-returns-in_default : goal.truth_at-returns-in_default
truth_at-returns-in_default t c =
    let k = truth_kinds _ _ _ c.requires.fits in
    literal_is _ _ _ _ _ _ (c.requires.fits, (c.requires.room, c.requires.spans)) {kind = 0x21} (omega arith) (literal_form (omega arith) (omega arith))

pub truth_at-returns-in_default-2 : goal.truth_at-returns-in_default-2
truth_at-returns-in_default-2 t c = let k = truth_kinds _ _ _ c.requires.fits in absurd (omega arith)
