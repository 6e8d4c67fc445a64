-- `testing::tests::concludes` meets its contract, by what the step says.
-- Assumes nothing.
use mathlib.Core.Path.{sym, ◌∙◌}
use mathlib.Core.Logic.{⊎_elim}
use Rattle.testing.proofs.Steps.Testing.{concludes_range, concludes_idle, concludes_reached, concludes_enabled, reached_ranges, reached_fits}
use Rattle.evaluating.proofs.Laws.Step.{step_unheld, step_to, step_idle, step_held}
use Rattle.testing.proofs.tests.concludes.Goals as goal
use Rattle.testing.proofs.tests.concludes.Goals.{in-OutOfRange, in_default}

pub all_hold-requires-clause-ranges : goal.all_hold-requires-clause-ranges
all_hold-requires-clause-ranges c =
    let p = c.requires in
    reached_ranges _ _ _ _ _ c.in-Reached.is c.in-To.ensures p.fits p.within

pub all_hold-requires-clause-fits : goal.all_hold-requires-clause-fits
all_hold-requires-clause-fits c =
    let p = c.requires in
    reached_fits _ _ _ _ _ c.in-Reached.is c.in-To.ensures p.fits p.within

pub returns-after-matches : goal.returns-after-matches
returns-after-matches c =
    let s = c.step-s in
    elim c.match-matches.branch [
      | in-OutOfRange w ↦ rw w.matches-is (concludes_range _ _ _ _ _ c.in-ValuesInRange.is (step_unheld _ _ _ _ _ (sym w.in-OutOfRange.is ∙ s.ensures)))
      | in_default w ↦ rw w.matches-is (concludes_range _ _ _ _ _ c.in-ValuesInRange.is (step_held _ _ _ _ _ s.ensures w.in_default.not-OutOfRange))
    ]

pub returns-in-Blocked : goal.returns-in-Blocked
returns-in-Blocked c =
    concludes_idle _ _ _ _ _ c.in-Reached.is (step_idle _ _ _ _ _ c.step.ensures (λ x e. ⊎_elim (λ b. cc) (λ o. cc) c.in-Blocked.is))

pub returns-in-To : goal.returns-in-To
returns-in-To c = c.all_hold.ensures ∙ concludes_reached _ _ _ _ _ c.in-Reached.is c.in-To.ensures

pub returns-in-To-matches : goal.returns-in-To-matches
returns-in-To-matches c = concludes_enabled _ _ _ _ _ c.in-Enabled.is (step_to _ _ _ _ _ c.in-To-matches.ensures).1

pub returns-in_default-matches : goal.returns-in_default-matches
returns-in_default-matches c = concludes_enabled _ _ _ _ _ c.in-Enabled.is (step_idle _ _ _ _ _ c.step-s-in-Enabled.ensures c.in_default-matches.not-To)
