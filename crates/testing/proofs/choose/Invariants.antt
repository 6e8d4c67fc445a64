-- `testing::choose` meets its contract: the places are those chosen of the nodes passed.
-- Assumes nothing.
use Rattle.testing.proofs.Steps.Testing.{Choosing}
use Rattle.testing.proofs.choose.Given as goal

abbrev pub invariant-loop-i : goal.invariant-loop-i
invariant-loop-i l = Choosing l.marks l.assertions l.n l.places l.count l.i
