-- `sections::node_places` meets its contract: the places of nodes.
-- Assumes nothing.
use Rattle.sections.proofs.Laws.Section.{node_bound}
use Rattle.sections.proofs.node_places.Goals as goal

pub places-requires-clause-within : goal.places-requires-clause-within
places-requires-clause-within c = λ i end e. (node_bound _ _ _ i end e).1
