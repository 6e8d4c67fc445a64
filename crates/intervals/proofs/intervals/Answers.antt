-- `intervals::intervals`: the scan from `at` on gives the answer for the whole file. The measure is the records left.
-- Assumes nothing.
use mathlib.Core.Path.{refl, sym}
use native.Mathlib.Omega.{arith}
use Rattle.std.proofs.lemmas.Result.{err_from_is_err_and}
use Rattle.intervals.proofs.Laws.Interval.{analysis_ahead}
use Rattle.intervals.proofs.Laws.Scan.{no_sort, one_sort, scan_begins, scan_over, scan_skip, scan_out, scan_next}
use Rattle.intervals.proofs.intervals.Goals as goal

pub loop-at-init : goal.loop-at-init
loop-at-init c = scan_begins _ _ refl

pub returns-in_err-at : goal.returns-in_err-at
returns-in_err-at c =
    let p = err_from_is_err_and c.from_residual.result c.from_residual.ensures.1 in
    let some = rw c.signature_at.ensures at (one_sort _ c.is_none.ensures c.if-is_none.false) in
    let out = scan_out _ _ _ c.loop-at-test.true some _ (sym c.in_err-at.ensures) c.loop-at.invariant in
    cc

pub loop-at-preserved-then-is_none : goal.loop-at-preserved-then-is_none
loop-at-preserved-then-is_none c =
    scan_skip _ _ _ c.loop-at-test.true (rw c.signature_at.ensures at (no_sort _ c.is_none.ensures c.if-is_none.true)) c.loop-at.invariant

pub loop-at-smaller : goal.loop-at-smaller
loop-at-smaller c = omega (arith, analysis_ahead _ _ _ _ _ (sym c.in_ok-at.ensures))

pub loop-at-preserved : goal.loop-at-preserved
loop-at-preserved c =
    scan_next _ _ _ c.loop-at-test.true (rw c.signature_at.ensures at (one_sort _ c.is_none.ensures c.if-is_none.false)) _ _
    (sym c.in_ok-at.ensures) c.loop-at.invariant

pub returns : goal.returns
returns c = sym (scan_over _ _ _ c.loop-at-test.false c.loop-at.invariant)
