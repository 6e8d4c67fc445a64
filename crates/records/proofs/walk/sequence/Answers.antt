-- `records::walk::sequence` meets its contract. The loop's invariant: the expressions left, from `next` on, say what all of them do.
-- Assumes nothing.
use native.Mathlib.Omega.{arith}
use Rattle.std.proofs.lemmas.Result.{err_from_is_err_and}
use Rattle.records.proofs.Steps.Walk.{sequence_none, sequence_ends, sequence_refused}
use Rattle.records.proofs.walk.sequence.Goals as goal

pub returns-in_err-next : goal.returns-in_err-next
returns-in_err-next c =
    let p = err_from_is_err_and c.from_residual.result c.from_residual.ensures.1 in
    rw (p.1, p.2) (sequence_refused _ _ _ _ c.loop.invariant (omega arith) c.walk_sort.ensures c.in_err-next.was)

pub loop-preserved : goal.loop-preserved
loop-preserved c = sequence_ends _ _ _ _ c.loop.invariant c.loop-test.true c.walk_sort.ensures c.in_ok-next.was

pub returns : goal.returns
returns c = sequence_none _ _ _ _ c.loop.invariant (omega arith)
