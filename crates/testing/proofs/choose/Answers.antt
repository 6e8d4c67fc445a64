-- `testing::choose` meets its contract: the places are those chosen of the nodes passed.
-- Assumes nothing.
use Rattle.testing.proofs.Steps.Testing.{choosing_begin, choosing_end, choosing_more, choosing_skip}
use Rattle.testing.proofs.choose.Goals as goal
use Rattle.testing.proofs.choose.Goals.{then-marks-i, else-marks-i}

pub loop-i-init : goal.loop-i-init
loop-i-init c = choosing_begin _ _ _

pub loop-i-preserved : goal.loop-i-preserved
loop-i-preserved c =
    let k = c.loop-i.invariant in
    let l = c.loop-i-test.true in
    elim c.if-marks-i.branch [
      | then-marks-i w ↦ rw (w.places-is, w.count-is) (choosing_more _ _ _ k l c.requires.most w.if-marks-i.true)
      | else-marks-i w ↦ rw (w.places-is, w.count-is) (choosing_skip _ _ _ k l c.requires.most w.if-marks-i.false)
    ]

pub returns : goal.returns
returns c = choosing_end _ _ _ c.loop-i.invariant c.loop-i-test.false
