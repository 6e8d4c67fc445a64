-- `testing::tests::all_hold`: the states before `state` pass, so that the others decide (`Trying`). The measure is how many are left.
-- Assumes nothing.
use mathlib.Core.Path.{sym}
use native.Mathlib.Omega.{arith}
use Rattle.truths.proofs.Laws.Answer.{if_taken, if_left}
use Rattle.states.proofs.Laws.State.{ranges_low, at_idle}
use Rattle.states.proofs.Laws.Between.{trying_first, trying_fails, trying_passes, trying_next, trying_less}
use Rattle.testing.proofs.tests.all_hold.Goals as goal

pub loop-low-init : goal.loop-low-init
loop-low-init c = let r = c.requires.ranges in trying_first _ _ _ r (ranges_low r)

pub some_holds-requires : goal.some_holds-requires
some_holds-requires c = let p = c.requires in record { spans = p.spans; most = p.most; fits = p.fits _ c.loop-low.invariant.within }

pub returns-then-is_last : goal.returns-then-is_last
returns-then-is_last c =
    sym (trying_passes _ _ _ c.loop-low.invariant (if_taken c.some_holds.ensures c.loop-low-test.true) (if_taken c.is_last.ensures c.if-is_last.true))

pub advance-next-requires : goal.advance-next-requires
advance-next-requires c = record { most = omega arith; idle = at_idle 12 _ _ _ (λ i l m. absurd (omega arith)) }

pub loop-low-smaller : goal.loop-low-smaller
loop-low-smaller c = rw c.advance-next.ensures (trying_less _ _ _ c.loop-low.invariant (if_left c.is_last.ensures c.if-is_last.false))

pub loop-low-preserved : goal.loop-low-preserved
loop-low-preserved c =
    rw c.advance-next.ensures
    (trying_next _ _ _ c.loop-low.invariant (if_left c.is_last.ensures c.if-is_last.false) (if_taken c.some_holds.ensures c.loop-low-test.true))

pub returns : goal.returns
returns c = sym (trying_fails _ _ _ c.loop-low.invariant (if_left c.some_holds.ensures c.loop-low-test.false))
