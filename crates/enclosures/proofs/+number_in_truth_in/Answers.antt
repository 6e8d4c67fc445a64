-- The evaluators on a box meet their contracts, by the kind of the record. The measure is the levels left. Assumes nothing.
use mathlib.Core.Path.{refl, sym, ◌∙◌}
use native.Mathlib.Omega.{arith}
use mir.Syntax.{w64}
use Rattle.integers.proofs.Laws.Parts.{back}
use Rattle.records.proofs.Laws.Kind.{constant_form, variable_form, indicator_form, literal_form, negation_form}
use Rattle.expressions.proofs.Laws.Expression.{fits_level, fits_record, divisor_above}
use Rattle.expressions.proofs.Laws.Operand.{number_kinds, truth_kinds, one, combined, divided, connected, compared}
use Rattle.domains.proofs.Laws.Seen.{literal_true, literal_false}
use Rattle.enclosures.proofs.Laws.Enclosure.{number_bounded}
use Rattle.enclosures.proofs.Steps.Enclosure.{constant_in, variable_in, indicator_in_lem, arithmetic_in, division_in}
use Rattle.enclosures.proofs.Steps.Enclosure.{literal_in_lem, negation_in, connective_in, decided_in, comparison_in}
use Rattle.enclosures.proofs.+number_in_truth_in.Goals as goal

-- ---- `number_in`

pub number_in-bounds-part-0 : goal.number_in-bounds-part-0
number_in-bounds-part-0 t c = omega (arith, (fits_record _ _ _ _ c.requires.fits).there)

pub number_in-overflow_sub-below : goal.number_in-overflow_sub-below
number_in-overflow_sub-below t c = omega (arith, fits_level _ _ _ _ c.requires.fits)

pub number_in-after-rest-requires : goal.number_in-after-rest-requires
number_in-after-rest-requires t c = (fits_record _ _ _ _ c.requires.fits).there

pub number_in-constant-value-requires : goal.number_in-constant-value-requires
number_in-constant-value-requires t c = (fits_record _ _ _ _ c.requires.fits).there

pub number_in-bounds-part-1 : goal.number_in-bounds-part-1
number_in-bounds-part-1 t c = omega (arith, (fits_record _ _ _ _ c.requires.fits).there)

pub number_in-element-requires : goal.number_in-element-requires
number_in-element-requires t c = (fits_record _ _ _ _ c.requires.fits).variable (variable_form c.in-17.is)

pub number_in-element-requires-in-17 : goal.number_in-element-requires-in-17
number_in-element-requires-in-17 t c = (fits_record _ _ _ _ c.requires.fits).variable (variable_form c.in-17.is)

pub number_in-number_in-x-requires : goal.number_in-number_in-x-requires
number_in-number_in-x-requires t c =
    let s = combined c.requires.fits c.requires.room c.requires.spans c.after-rest.ensures (omega arith) (omega arith) in
    (omega (arith, s.level), s.left)

pub number_in-bounds-spans-first : goal.number_in-bounds-spans-first
number_in-bounds-spans-first t c = (combined c.requires.fits c.requires.room c.requires.spans c.after-rest.ensures (omega arith) (omega arith)).entry

pub number_in-after-requires : goal.number_in-after-requires
number_in-after-requires t c = (combined c.requires.fits c.requires.room c.requires.spans c.after-rest.ensures (omega arith) (omega arith)).within

pub number_in-number_in-y-requires : goal.number_in-number_in-y-requires
number_in-number_in-y-requires t c =
    let s = combined c.requires.fits c.requires.room c.requires.spans c.after-rest.ensures (omega arith) (omega arith) in
    (omega (arith, s.level), s.right c.after.ensures)

pub number_in-combine-requires-clause-left : goal.number_in-combine-requires-clause-left
number_in-combine-requires-clause-left t c = rw c.number_in-x.ensures (number_bounded _ _ _)

pub number_in-combine-requires-clause-right : goal.number_in-combine-requires-clause-right
number_in-combine-requires-clause-right t c = rw c.number_in-y.ensures (number_bounded _ _ _)

pub number_in-number_in-x-requires-in-24-to-25 : goal.number_in-number_in-x-requires-in-24-to-25
number_in-number_in-x-requires-in-24-to-25 t c =
    let s = divided c.requires.fits c.requires.room c.requires.spans c.after-rest.ensures (omega arith) (omega arith) in
    (omega (arith, s.level), s.left)

pub number_in-bounds-spans-first-in-24-to-25 : goal.number_in-bounds-spans-first-in-24-to-25
number_in-bounds-spans-first-in-24-to-25 t c = (divided c.requires.fits c.requires.room c.requires.spans c.after-rest.ensures (omega arith) (omega arith)).entry

pub number_in-after-requires-in-24-to-25 : goal.number_in-after-requires-in-24-to-25
number_in-after-requires-in-24-to-25 t c = (divided c.requires.fits c.requires.room c.requires.spans c.after-rest.ensures (omega arith) (omega arith)).within

pub number_in-constant-requires : goal.number_in-constant-requires
number_in-constant-requires t c = (fits_record _ _ _ _ ((divided c.requires.fits c.requires.room c.requires.spans c.after-rest.ensures (omega arith) (omega arith)).right c.after-in-24-to-25.ensures).0).there

pub number_in-divide-requires : goal.number_in-divide-requires
number_in-divide-requires t c =
    let k = c.constant in
    rw (back w64 k.result k.type_inv, k.ensures) (divisor_above _ _ _ ((divided c.requires.fits c.requires.room c.requires.spans c.after-rest.ensures (omega arith) (omega arith)).right c.after-in-24-to-25.ensures).0)

pub number_in-truth_in-requires : goal.number_in-truth_in-requires
number_in-truth_in-requires t c =
    let l = fits_level _ _ _ _ c.requires.fits in
    let k = number_kinds _ _ _ c.requires.fits in
    (omega arith, one _ _ _ _ _ _ (c.requires.fits, (c.requires.room, c.requires.spans)) (indicator_form (grind arith)) c.after-rest.ensures refl)

pub number_in-returns-in-16 : goal.number_in-returns-in-16
number_in-returns-in-16 t c =
    let k = c.constant-value in
    (rw (back w64 k.result k.type_inv, k.ensures) at c.spanning.ensures) ∙ constant_in (fits_level _ _ _ _ c.requires.fits) _ _ (constant_form c.in-16.is)

pub number_in-returns-in-17 : goal.number_in-returns-in-17
number_in-returns-in-17 t c =
    let a = c.element in
    let b = c.element-in-17 in
    (rw (back w64 a.result a.type_inv, a.ensures, back w64 b.result b.type_inv, b.ensures) at c.spanning-in-17.ensures)
    ∙ variable_in (fits_level _ _ _ _ c.requires.fits) _ _ (variable_form c.in-17.is)

pub number_in-returns-in-18-to-20 : goal.number_in-returns-in-18-to-20
number_in-returns-in-18-to-20 t c =
    c.combine.ensures ∙ arithmetic_in _ (combined c.requires.fits c.requires.room c.requires.spans c.after-rest.ensures (omega arith) (omega arith))
    c.after.ensures c.number_in-x.ensures c.number_in-y.ensures refl

pub number_in-returns-in-24-to-25 : goal.number_in-returns-in-24-to-25
number_in-returns-in-24-to-25 t c =
    let k = c.constant in
    (rw (back w64 k.result k.type_inv, k.ensures) at c.divide.ensures)
    ∙ division_in _ (divided c.requires.fits c.requires.room c.requires.spans c.after-rest.ensures (omega arith) (omega arith)) c.after-in-24-to-25.ensures c.number_in-x-in-24-to-25.ensures refl

pub number_in-returns-in_default : goal.number_in-returns-in_default
number_in-returns-in_default t c =
    let k = number_kinds _ _ _ c.requires.fits in
    c.indicator.ensures ∙ indicator_in_lem (fits_level _ _ _ _ c.requires.fits) _ _ c.after-rest.ensures c.truth_in.ensures (indicator_form (grind arith))

-- ---- `truth_in`

pub truth_in-bounds-part-0 : goal.truth_in-bounds-part-0
truth_in-bounds-part-0 t c = omega (arith, (fits_record _ _ _ _ c.requires.fits).there)

pub truth_in-overflow_sub-below : goal.truth_in-overflow_sub-below
truth_in-overflow_sub-below t c = omega (arith, fits_level _ _ _ _ c.requires.fits)

pub truth_in-after-rest-requires : goal.truth_in-after-rest-requires
truth_in-after-rest-requires t c = (fits_record _ _ _ _ c.requires.fits).there

pub truth_in-truth_in-requires : goal.truth_in-truth_in-requires
truth_in-truth_in-requires t c =
    let l = fits_level _ _ _ _ c.requires.fits in
    (omega arith, one _ _ _ _ _ _ (c.requires.fits, (c.requires.room, c.requires.spans)) (negation_form c.in-34.is) c.after-rest.ensures refl)

pub truth_in-truth_in-p-requires : goal.truth_in-truth_in-p-requires
truth_in-truth_in-p-requires t c =
    let s = connected c.requires.fits c.requires.room c.requires.spans c.after-rest.ensures (omega arith) (omega arith) in
    (omega (arith, s.level), s.left)

pub truth_in-bounds-spans-first : goal.truth_in-bounds-spans-first
truth_in-bounds-spans-first t c = (connected c.requires.fits c.requires.room c.requires.spans c.after-rest.ensures (omega arith) (omega arith)).entry

pub truth_in-after-requires : goal.truth_in-after-requires
truth_in-after-requires t c = (connected c.requires.fits c.requires.room c.requires.spans c.after-rest.ensures (omega arith) (omega arith)).within

pub truth_in-truth_in-q-requires : goal.truth_in-truth_in-q-requires
truth_in-truth_in-q-requires t c =
    let s = connected c.requires.fits c.requires.room c.requires.spans c.after-rest.ensures (omega arith) (omega arith) in
    (omega (arith, s.level), s.right c.after.ensures)

pub truth_in-returns-then-decides : goal.truth_in-returns-then-decides
truth_in-returns-then-decides t c =
    c.connect.ensures ∙ decided_in _ (connected c.requires.fits c.requires.room c.requires.spans c.after-rest.ensures (omega arith) (omega arith))
    (sym c.decides.ensures ∙ c.if-decides.true) c.truth_in-p.ensures refl

pub truth_in-returns-else-decides : goal.truth_in-returns-else-decides
truth_in-returns-else-decides t c =
    c.connect-in-35-to-38.ensures ∙ connective_in _ (connected c.requires.fits c.requires.room c.requires.spans c.after-rest.ensures (omega arith) (omega arith))
    c.after.ensures c.truth_in-p.ensures c.truth_in-q.ensures refl

pub truth_in-number_in-x-requires : goal.truth_in-number_in-x-requires
truth_in-number_in-x-requires t c =
    let k = truth_kinds _ _ _ c.requires.fits in
    let s = compared c.requires.fits c.requires.room c.requires.spans c.after-rest.ensures (grind arith) in
    (omega (arith, s.level), s.left)

pub truth_in-bounds-spans-first-in_default : goal.truth_in-bounds-spans-first-in_default
truth_in-bounds-spans-first-in_default t c =
    let k = truth_kinds _ _ _ c.requires.fits in
    (compared c.requires.fits c.requires.room c.requires.spans c.after-rest.ensures (grind arith)).entry

pub truth_in-after-requires-in_default : goal.truth_in-after-requires-in_default
truth_in-after-requires-in_default t c =
    let k = truth_kinds _ _ _ c.requires.fits in
    (compared c.requires.fits c.requires.room c.requires.spans c.after-rest.ensures (grind arith)).within

pub truth_in-number_in-y-requires : goal.truth_in-number_in-y-requires
truth_in-number_in-y-requires t c =
    let k = truth_kinds _ _ _ c.requires.fits in
    let s = compared c.requires.fits c.requires.room c.requires.spans c.after-rest.ensures (grind arith) in
    (omega (arith, s.level), s.right c.after-in_default.ensures)

pub truth_in-compare-requires-clause-left : goal.truth_in-compare-requires-clause-left
truth_in-compare-requires-clause-left t c = rw c.number_in-x.ensures (number_bounded _ _ _)

pub truth_in-compare-requires-clause-right : goal.truth_in-compare-requires-clause-right
truth_in-compare-requires-clause-right t c = rw c.number_in-y.ensures (number_bounded _ _ _)

pub truth_in-returns-in-32 : goal.truth_in-returns-in-32
truth_in-returns-in-32 t c = sym literal_true ∙ literal_in_lem (fits_level _ _ _ _ c.requires.fits) _ _ c.in-32.is (literal_form (omega arith) (omega arith))

pub truth_in-returns-in-33 : goal.truth_in-returns-in-33
truth_in-returns-in-33 t c = sym literal_false ∙ literal_in_lem (fits_level _ _ _ _ c.requires.fits) _ _ c.in-33.is (literal_form (omega arith) (omega arith))

pub truth_in-returns-in-34 : goal.truth_in-returns-in-34
truth_in-returns-in-34 t c = c.opposite.ensures ∙ negation_in (fits_level _ _ _ _ c.requires.fits) _ _ c.after-rest.ensures c.truth_in.ensures (negation_form c.in-34.is)

pub truth_in-returns-in_default : goal.truth_in-returns-in_default
truth_in-returns-in_default t c =
    let k = truth_kinds _ _ _ c.requires.fits in
    c.compare.ensures ∙ comparison_in _ (compared c.requires.fits c.requires.room c.requires.spans c.after-rest.ensures (grind arith))
    c.after-in_default.ensures c.number_in-x.ensures c.number_in-y.ensures refl
