-- `judging::check` meets its contract: a report that is too short is left as it is; the verdict is written to any other. It decides, and an acceptance is
-- sound.
-- Assumes nothing.
use mathlib.Core.Path.{sym, ◌∙◌}
use Rattle.report.proofs.Laws.Report.{report_short}
use Rattle.verdicts.proofs.Laws.Verdict.{check_short, check_long}
use Rattle.judging.proofs.Laws.Check.{check_decides, check_claims}
use Rattle.judging.proofs.check.Goals as goal

pub returns-then-report-lt32 : goal.returns-then-report-lt32
returns-then-report-lt32 c =
    let e = c.refused.ensures ∙ sym (check_short _ c.if-report-lt32.true) in
    record { verdict = e; written = report_short _ _ c.if-report-lt32.true; decides = check_decides _ _ e; sound = check_claims _ _ e }

pub returns : goal.returns
returns c =
    let e = c.verdict-found.ensures ∙ sym (check_long _ c.if-report-lt32.false) in
    record { verdict = e; written = c.write_report.ensures; decides = check_decides _ _ e; sound = check_claims _ _ e }
