-- `report::put_values` meets its contract: at the loop's head the report has the bytes of the first i values.
-- Assumes nothing.
use Rattle.report.proofs.Steps.Report.{ValuesWritten}
use Rattle.report.proofs.put_values.Given as goal

abbrev pub invariant-loop-i : goal.invariant-loop-i
invariant-loop-i l = ValuesWritten l.initial.report l.fn.values l.report l.i
