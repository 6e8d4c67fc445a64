-- `testing::tests::some_in` meets its contract: what is seen of the places passed, or of those behind, is seen of all.
-- Assumes nothing.
use mathlib.Core.Path.{◌≡◌}
use lib.ListN.{drop}
use Rattle.domains.specs.Seen.{either_of}
use Rattle.testing.specs.Testing.{some_in, listed}
use Rattle.testing.proofs.tests.some_in.Given as goal

abbrev pub invariant-loop-at : goal.invariant-loop-at
invariant-loop-at l = either_of l.seen (some_in l.file (drop l.at-index (listed l.targets)) l.b) ≡ some_in l.file (listed l.targets) l.b
