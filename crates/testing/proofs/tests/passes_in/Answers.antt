-- `testing::tests::passes_in` meets its contract: the premise can be evaluated at the low ends of the box.
-- Assumes nothing.
use Rattle.testing.proofs.Steps.Testing.{premise_in}
use Rattle.testing.proofs.tests.passes_in.Goals as goal

pub seen_in-premise-requires-clause-fits : goal.seen_in-premise-requires-clause-fits
seen_in-premise-requires-clause-fits c = premise_in c.requires.fits c.requires.part
