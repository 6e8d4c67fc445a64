-- What antt unfolds to compute what a file claims, beyond what it unfolds to compute its system and diagram.
-- Assumes nothing.
use Rattle.diagrams.proofs.Computing.{computing}
use Rattle.soundness.specs.System

-- `unfolding claiming` unfolds all that stands here
unfoldable pub claiming : Unit {0}
unfolding computing System.Claimed
claiming = tt
