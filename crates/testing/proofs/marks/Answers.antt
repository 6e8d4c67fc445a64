-- `testing::marks` meets its contract: the marks are those that the edges passed make.
-- Assumes nothing.
use native.Mathlib.Omega.{arith}
use Rattle.testing.specs.Testing.{marks_of}
use Rattle.testing.proofs.Laws.Marks.{marked_kept, marked_end}
use Rattle.testing.proofs.Steps.Testing.{keeps, target_small, mark_hit, mark_miss}
use Rattle.testing.proofs.marks.Goals as goal
use Rattle.testing.proofs.marks.Goals.{then-carries, else-carries}

pub bounds-marks-node : goal.bounds-marks-node
bounds-marks-node c = omega (arith, (keeps _ _ c.requires.loaded).nodes.1)

pub loop-e-init : goal.loop-e-init
loop-e-init c = marked_kept _ _ _ _ _ _ _ (omega (arith, (keeps _ _ c.requires.loaded).nodes.1))

pub bounds-marks-edge : goal.bounds-marks-edge
bounds-marks-edge c = target_small _ _ c.requires.loaded _ _ _ c.loop-e.invariant c.loop-e-test.true c.edge_of-edge.ensures

pub loop-e-preserved : goal.loop-e-preserved
loop-e-preserved c =
    let r = c.requires.loaded in
    let k = c.loop-e.invariant in
    let l = c.loop-e-test.true in
    let is = c.edge_of-edge.ensures in
    let cs = c.carries.ensures in
    elim c.if-carries.branch [
      | then-carries w ↦ rw w.marks-is (mark_hit _ _ r _ _ _ k l is cs w.if-carries.true)
      | else-carries w ↦ rw w.marks-is (mark_miss _ _ r _ _ _ k l is cs w.if-carries.false)
    ]

pub returns : goal.returns
unfolding marks_of
returns c = marked_end _ _ _ _ _ _ _ c.loop-e.invariant (omega arith)
