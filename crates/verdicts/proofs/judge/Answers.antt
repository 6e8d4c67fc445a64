-- `verdicts::judge` meets its contract: 20 comes before the conditions.
-- Assumes nothing.
use mathlib.Core.Path.{sym, ◌∙◌}
use borrow.Author.Tests.{not-true, not-false}
use Rattle.diagrams.proofs.Laws.Start.{start_follows, start_refused}
use Rattle.verdicts.proofs.Steps.Verdict.{small, spans_serve}
use Rattle.verdicts.proofs.judge.Goals as goal

pub spans_of-spans-requires : goal.spans_of-spans-requires
spans_of-spans-requires c = small _ _ c.requires

pub starts-requires : goal.starts-requires
starts-requires c = record { loaded = c.requires; spans = spans_serve _ _ c.requires c.spans_of-spans.ensures }

pub returns-then-not-starts : goal.returns-then-not-starts
returns-then-not-starts c = c.refused.ensures ∙ sym (start_refused _ _ _ _ (sym c.starts.ensures ∙ not-true _ c.if-not-starts.true-raw))

pub first_break-requires : goal.first_break-requires
first_break-requires c = record { loaded = c.requires; spans = spans_serve _ _ c.requires c.spans_of-spans.ensures }

pub returns : goal.returns
returns c = c.first_break.ensures ∙ sym (start_follows _ _ _ _ (sym c.starts.ensures ∙ not-false _ c.if-not-starts.false-raw))
