-- `testing::tests::concludes_in` meets its contract: what it asks can be evaluated at the low ends of the box.
-- Assumes nothing.
use mathlib.Core.Path.{refl}
use Rattle.testing.proofs.Steps.Testing.{targets_in, transition_in, reached_in}
use Rattle.testing.proofs.tests.concludes_in.Goals as goal

pub some_in-requires-clause-fits : goal.some_in-requires-clause-fits
some_in-requires-clause-fits c = targets_in c.requires.fits c.requires.part

pub next_in-m-requires-clause-fits : goal.next_in-m-requires-clause-fits
next_in-m-requires-clause-fits c = transition_in c.requires.fits c.requires.part c.in-ValuesInRange.is refl

pub next_in-m-requires-in-Reached-clause-fits : goal.next_in-m-requires-in-Reached-clause-fits
next_in-m-requires-in-Reached-clause-fits c = transition_in c.requires.fits c.requires.part c.in-Reached.is refl

pub some_in-requires-in-Reached-clause-fits : goal.some_in-requires-in-Reached-clause-fits
some_in-requires-in-Reached-clause-fits c = reached_in c.requires.fits c.requires.part c.next_in-m-in-Reached.ensures

pub next_in-m-requires-in-Enabled-clause-fits : goal.next_in-m-requires-in-Enabled-clause-fits
next_in-m-requires-in-Enabled-clause-fits c = transition_in c.requires.fits c.requires.part c.in-Enabled.is refl
