-- `expressions::spans::spans_of`: from `at` on the table is the definition's; `behind` is behind the operands that were passed. Assumes nothing.
use Rattle.std.proofs.Common.{◌≡◌, ◌+◌}
use Rattle.expressions.proofs.Steps.Span.{SpansFilled, past}
use Rattle.expressions.proofs.spans.spans_of.Given as goal

abbrev pub invariant-loop-at : goal.invariant-loop-at
invariant-loop-at l = SpansFilled l.file l.spans l.at

abbrev pub invariant-loop : goal.invariant-loop
invariant-loop l = l.behind ≡ past l.spans (l.at + 1) l.counter
