-- The report and the tests are the check's, and the line is the report's.
use Rattle.std.proofs.Common.{ap, ◌∙◌, replicate}
use Rattle.report.specs.Report.{report_of}
use Rattle.report.specs.declared.Verdict.{Verdict}
use Rattle.vdcheck.specs.Printing.{line_of, printed_of}
use Rattle.vdcheck.proofs.Laws.Printing.{printed_zero}
use Rattle.vdcheck.proofs.printing.printed.Goals as goal

pub returns-clause-line : goal.returns-clause-line
unfolding printed_of
returns-clause-line c =
    let k = c.check-verdict in
    c.line-line.ensures ∙ ap line_of (k.ensures.written ∙ ap (λ (v : Verdict). report_of v (replicate 32 0)) k.ensures.verdict)

pub returns-clause-sound : goal.returns-clause-sound
returns-clause-sound c a b =
    let is = returns-clause-line c in
    c.check-verdict.ensures.sound (ap (λ (v : Verdict). v.number) c.check-verdict.ensures.verdict ∙ printed_zero _ (rw is at a) (rw is at b))
