-- `testing::tests::some_in` meets its contract: what is seen of the places passed, or of those behind, is seen of all.
-- Assumes nothing.
use mathlib.Core.Path.{sym, ◌∙◌}
use Rattle.domains.proofs.Laws.Seen.{none_either}
use Rattle.testing.proofs.Steps.Testing.{in_end, in_later, in_sure}
use Rattle.testing.proofs.tests.some_in.Goals as goal

pub loop-at-init : goal.loop-at-init
loop-at-init c = none_either _

pub returns-then-sure : goal.returns-then-sure
returns-then-sure c =
    in_sure _ _ _ _ _ c.loop-at.invariant c.loop-at-test.true c.seen_in.ensures c.either-seen.ensures
    (sym c.sure.ensures ∙ c.if-sure.true)

pub loop-at-preserved : goal.loop-at-preserved
loop-at-preserved c = in_later _ _ _ _ _ c.loop-at.invariant c.loop-at-test.true c.seen_in.ensures c.either-seen.ensures

pub returns : goal.returns
returns c = in_end _ _ _ _ _ c.loop-at.invariant c.loop-at-test.false
