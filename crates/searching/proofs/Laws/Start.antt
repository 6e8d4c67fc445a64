-- Laws of the search for a starting state.
--     starts_failing     there is one exactly if "the start is false" fails at some state (C10.20)
--     denial_start       it can be evaluated at every state
-- Assumes nothing.
use mathlib.Core.Path.{◌≡◌, ◌∙◌}
use mathlib.Core.List.{List}
use Prim.Native.Nat.{ℕ}
use lib.Dec.{ltb}
use Rattle.truths.proofs.Laws.First.{first_any}
use Rattle.diagrams.specs.declared.Diagram.{Diagram}
use Rattle.diagrams.specs.Diagram.{Loaded}
use Rattle.diagrams.specs.Start.{starts_of}
use Rattle.diagrams.proofs.Laws.Diagram.{promised}
use Rattle.diagrams.proofs.Laws.Start.{starts_any}
use Rattle.diagrams.proofs.Laws.Truth.{start_at}
use Rattle.testing.specs.Testing.{denial_of, TestFits}
use Rattle.testing.proofs.Laws.Testing.{denial_says, denial_fits}
use Rattle.searching.specs.Scan.{failing_of}

module _ (file : List ℕ) (g : Diagram) where
  pub starts_failing : starts_of file g ≡ ltb (failing_of file g (denial_of g.start)) g.states
  unfolding failing_of
  starts_failing = starts_any file g ∙ first_any _ _ ∙ simp (denial_says, start_at)

  pub denial_start : Loaded file g → TestFits g.low g.high file (denial_of g.start)
  denial_start r = denial_fits g.low g.high file g.start (promised file g r).start.fits
