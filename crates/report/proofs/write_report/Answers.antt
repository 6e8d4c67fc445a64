-- `report::write_report` meets its contract: eight bytes, and the values behind them.
-- Assumes nothing.
use mathlib.Core.Path.{◌≡◌, ◌∙◌}
use Prim.Native.Nat.{◌/◌, ◌%◌}
use native.Mathlib.Omega.{arith}
use borrow.Author.Tests.{lt-ltb, le-ltb}
use lib.ListN.{length}
use lib.Seq.{drop-drop}
use Rattle.report.specs.Report.{report_bytes, report_of}
use Rattle.report.proofs.write_report.Goals as goal

pub returns-then-report-lt32 : goal.returns-then-report-lt32
unfolding report_of
returns-then-report-lt32 c = simp (lt-ltb _ _ c.if-report-lt32.true)

pub returns : goal.returns
unfolding report_of report_bytes
returns c =
    let r = c.args.report.now in
    let last : c.args.verdict.at / 16777216 % 256 ≡ c.args.verdict.at / 16777216 = omega arith in
    let e = rw (c.copy_from_slice.ensures.after, c.to_le_bytes.ensures) at c.put_values.ensures in
    rw (le-ltb (length r) 32 (omega arith), ← drop-drop 24 8 r) (e ∙ simp last)
