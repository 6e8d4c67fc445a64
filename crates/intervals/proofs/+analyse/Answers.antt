-- `intervals::analyse`: the record at hand is judged by its operands, each by a call with one level less. The measure is the levels left.
-- Assumes nothing.
use mathlib.Core.Path.{sym}
use Prim.Native.Nat.{◌-◌}
use Rattle.std.proofs.Common.{rules}
use Rattle.std.proofs.lemmas.Result.{err_from_is_err_and}
use Rattle.intervals.proofs.Steps.Interval.{analyse_deep, analyse_short, analyse_leaf, analyse_one_refused, analyse_one, analyse_left_refused}
use Rattle.intervals.proofs.Steps.Interval.{analyse_right_refused, analyse_two}
use Rattle.intervals.proofs.Laws.Interval.{analysis_bounded}
use Rattle.intervals.proofs.+analyse.Goals as goal
use Rattle.intervals.proofs.+analyse.Goals.{then-levels-eq0-via-then-levels-eq0, then-levels-eq0-via-else-levels-eq0+then-file-at}

pub returns-then-levels-eq0 : goal.returns-then-levels-eq0
returns-then-levels-eq0 t c =
    elim c.then-levels-eq0.branch [
      | then-levels-eq0-via-then-levels-eq0 w ↦ sym (analyse_deep _ _ _ w.if-levels-eq0.true)
      | then-levels-eq0-via-else-levels-eq0+then-file-at w ↦ sym (analyse_short _ _ _ w.if-file-at.true)
    ]

pub returns-in-Zero : goal.returns-in-Zero
returns-in-Zero t c =
    let step = analyse_leaf _ _ _ _ c.signature_of.ensures c.if-file-at.false c.if-levels-eq0.false c.in-Zero.is in
    cc

pub returns-in_err-truth-in-One : goal.returns-in_err-truth-in-One
returns-in_err-truth-in-One t c =
    let p = err_from_is_err_and c.from_residual.result c.from_residual.ensures.1 in
    let step =
    analyse_one_refused _ _ _ _ c.signature_of.ensures c.if-file-at.false c.if-levels-eq0.false c.in-One.is
    _ (sym c.in_err-truth-in-One.ensures) in
    cc

pub returns-in_ok-truth-in-One : goal.returns-in_ok-truth-in-One
returns-in_ok-truth-in-One t c =
    let step =
    analyse_one _ _ _ _ c.signature_of.ensures c.if-file-at.false c.if-levels-eq0.false c.in-One.is
    _ (sym c.in_ok-truth-in-One.ensures) in
    cc

pub returns-in_err-left-in-Two : goal.returns-in_err-left-in-Two
returns-in_err-left-in-Two t c =
    let p = err_from_is_err_and c.from_residual-in_err-left-in-Two.result c.from_residual-in_err-left-in-Two.ensures.1 in
    let step =
    analyse_left_refused _ _ _ _ c.signature_of.ensures c.if-file-at.false c.if-levels-eq0.false c.in-Two.is
    _ (sym c.in_err-left-in-Two.ensures) in
    cc

pub returns-in_err-right-in-Two : goal.returns-in_err-right-in-Two
returns-in_err-right-in-Two t c =
    let p = err_from_is_err_and c.from_residual-in_err-right-in-Two.result c.from_residual-in_err-right-in-Two.ensures.1 in
    let step =
    analyse_right_refused _ _ _ _ c.signature_of.ensures c.if-file-at.false c.if-levels-eq0.false c.in-Two.is
    _ (sym c.in_ok-left-in-Two.ensures) c.in_err-right-in-Two.field-0.0 (search rules) in
    cc

pub join-requires-clause-left : goal.join-requires-clause-left
join-requires-clause-left t c = analysis_bounded _ _ _ _ _ (sym c.in_ok-left-in-Two.ensures)

pub join-requires-clause-right : goal.join-requires-clause-right
join-requires-clause-right t c =
    let right = c.in_ok-right-in-Two.right in
    analysis_bounded right.interval right.end c.args.file.now (c.args.levels - 1) c.in_ok-left-in-Two.left.end (search rules)

pub returns-in_ok-right-in-Two : goal.returns-in_ok-right-in-Two
returns-in_ok-right-in-Two t c =
    let step =
    analyse_two _ _ _ _ c.signature_of.ensures c.if-file-at.false c.if-levels-eq0.false c.in-Two.is
    _ (sym c.in_ok-left-in-Two.ensures) c.in_ok-right-in-Two.right (search rules) in
    cc
