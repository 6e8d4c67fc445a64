-- `records::walk::truths` meets its contract: expressions in sequence, of the sort of truths.
-- Assumes nothing.

use Rattle.records.proofs.walk.truths.Goals as goal

pub returns : goal.returns
returns c = c.sequence.ensures
