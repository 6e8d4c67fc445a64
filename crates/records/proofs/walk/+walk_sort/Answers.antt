-- `records::walk::walk_sort` meets its contract, by the tests in their order. The measure is the levels left. Assumes nothing.
use mathlib.Core.Path.{sym, ◌∙◌}
use Rattle.std.proofs.lemmas.Result.{err_from_is_err_and}
use Rattle.records.proofs.Steps.Walk.{operands_none, operands_one, operands_two, operands_refused, sort_fits, sort_unfit, walk_short, walk_unfit}
use Rattle.records.proofs.Steps.Walk.{walk_field, walk_deep, walk_divisor, walk_step}
use Rattle.records.proofs.walk.+walk_sort.Goals as goal

pub returns-then-file-at : goal.returns-then-file-at
returns-then-file-at t c = walk_short _ _ _ _ _ c.if-file-at.true

pub returns-then-ne : goal.returns-then-ne
returns-then-ne t c = walk_unfit _ _ _ _ _ c.signature_at-signature.ensures c.if-file-at.false _ (sort_unfit _ _ c.stands.ensures c.ne.ensures c.if-ne.true)

pub returns-then-not-expression_fields : goal.returns-then-not-expression_fields
returns-then-not-expression_fields t c =
    walk_field _ _ _ _ _ c.signature_at-signature.ensures c.if-file-at.false (sort_fits _ _ c.stands.ensures c.ne.ensures c.if-ne.false) c.expression_fields.ensures _ c.if-not-expression_fields.true-raw

pub returns-then-levels-eq0 : goal.returns-then-levels-eq0
returns-then-levels-eq0 t c =
    walk_deep _ _ _ _ _ c.signature_at-signature.ensures c.if-file-at.false (sort_fits _ _ c.stands.ensures c.ne.ensures c.if-ne.false) c.expression_fields.ensures c.if-not-expression_fields.false-raw _ c.if-levels-eq0.true

pub returns-then-not-suits : goal.returns-then-not-suits
returns-then-not-suits t c =
    walk_divisor _ _ _ _ _ c.signature_at-signature.ensures c.if-file-at.false (sort_fits _ _ c.stands.ensures c.ne.ensures c.if-ne.false) c.expression_fields.ensures c.if-not-expression_fields.false-raw c.suits.ensures _ c.if-levels-eq0.false
    c.if-not-suits.true-raw

pub returns-in-Zero : goal.returns-in-Zero
returns-in-Zero t c =
    operands_none _
    (walk_step _ _ _ _ _ c.signature_at-signature.ensures c.if-file-at.false (sort_fits _ _ c.stands.ensures c.ne.ensures c.if-ne.false) c.expression_fields.ensures c.if-not-expression_fields.false-raw c.suits.ensures _ c.if-levels-eq0.false
    c.if-not-suits.false-raw)
    c.in-Zero.is

pub returns-in-One : goal.returns-in-One
returns-in-One t c =
    operands_one _
    (walk_step _ _ _ _ _ c.signature_at-signature.ensures c.if-file-at.false (sort_fits _ _ c.stands.ensures c.ne.ensures c.if-ne.false) c.expression_fields.ensures c.if-not-expression_fields.false-raw c.suits.ensures _ c.if-levels-eq0.false
    c.if-not-suits.false-raw)
    c.in-One.is c.walk_sort.ensures

pub returns-in_err-next-in-Two : goal.returns-in_err-next-in-Two
returns-in_err-next-in-Two t c =
    let p = err_from_is_err_and c.from_residual.result c.from_residual.ensures.1 in
    rw (p.1, p.2)
    (operands_refused _
    (walk_step _ _ _ _ _ c.signature_at-signature.ensures c.if-file-at.false (sort_fits _ _ c.stands.ensures c.ne.ensures c.if-ne.false) c.expression_fields.ensures c.if-not-expression_fields.false-raw c.suits.ensures _ c.if-levels-eq0.false
    c.if-not-suits.false-raw)
    c.in-Two.is c.walk_sort-in-Two.ensures c.in_err-next-in-Two.was)

pub returns-in_ok-next-in-Two : goal.returns-in_ok-next-in-Two
returns-in_ok-next-in-Two t c =
    operands_two _
    (walk_step _ _ _ _ _ c.signature_at-signature.ensures c.if-file-at.false (sort_fits _ _ c.stands.ensures c.ne.ensures c.if-ne.false) c.expression_fields.ensures c.if-not-expression_fields.false-raw c.suits.ensures _ c.if-levels-eq0.false
    c.if-not-suits.false-raw)
    c.in-Two.is c.walk_sort-in-Two.ensures c.in_ok-next-in-Two.was c.walk_sort-in-Two-2.ensures
