-- `testing::tests::some_holds` meets its contract: no place passed holds.
-- Assumes nothing.
use mathlib.Core.Path.{◌≡◌}
use lib.ListN.{drop}
use Rattle.testing.specs.Testing.{some_holds, listed}
use Rattle.testing.proofs.tests.some_holds.Given as goal

abbrev pub invariant-loop-at : goal.invariant-loop-at
invariant-loop-at l = some_holds l.file (drop l.at-index (listed l.targets)) l.state ≡ some_holds l.file (listed l.targets) l.state
