-- `evaluating::update_at` meets its contract, by whether it is a pick. Assumes nothing.
use native.Mathlib.Omega.{arith}
use Rattle.truths.proofs.Laws.Answer.{if_taken, if_left}
use Rattle.records.proofs.Laws.Record.{kind_is_lem}
use Rattle.evaluating.specs.Transition.{update_at}
use Rattle.evaluating.proofs.update_at.Goals as goal

pub pick_at-requires : goal.pick_at-requires
pick_at-requires c = omega (arith, (kind_is_lem _ _ _ (if_taken c.kind_is.ensures c.if-kind_is.true)).0)

pub returns-then-kind_is : goal.returns-then-kind_is
unfolding update_at
returns-then-kind_is c = rw (if_taken c.kind_is.ensures c.if-kind_is.true) c.pick_at.ensures

pub assignment_at-requires : goal.assignment_at-requires
assignment_at-requires c = record { fits = c.requires.fits.value (if_left c.kind_is.ensures c.if-kind_is.false); spans = c.requires.spans }

pub returns-else-kind_is : goal.returns-else-kind_is
unfolding update_at
returns-else-kind_is c = rw (if_left c.kind_is.ensures c.if-kind_is.false) c.assignment_at.ensures
