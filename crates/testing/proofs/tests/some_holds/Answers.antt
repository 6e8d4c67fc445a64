-- `testing::tests::some_holds` meets its contract: no place passed holds.
-- Assumes nothing.
use mathlib.Core.Path.{sym, ◌∙◌}
use Rattle.testing.proofs.Steps.Testing.{some_end, some_here, some_later}
use Rattle.testing.proofs.tests.some_holds.Goals as goal

pub returns-then-holds : goal.returns-then-holds
returns-then-holds c = sym (sym c.loop-at.invariant ∙ some_here _ _ _ _ c.loop-at-test.true (sym c.holds.ensures ∙ c.if-holds.true))

pub loop-at-preserved : goal.loop-at-preserved
loop-at-preserved c = sym (some_later _ _ _ _ c.loop-at-test.true (sym c.holds.ensures ∙ c.if-holds.false)) ∙ c.loop-at.invariant

pub returns : goal.returns
returns c = sym (sym c.loop-at.invariant ∙ some_end _ _ _ _ c.loop-at-test.false)
