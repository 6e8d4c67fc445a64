-- `sections::transition_places` meets its contract: the places of transitions.
-- Assumes nothing.
use Rattle.sections.proofs.Laws.Section.{transition_bound}
use Rattle.sections.proofs.transition_places.Goals as goal

pub places-requires-clause-within : goal.places-requires-clause-within
places-requires-clause-within c = λ i end e. (transition_bound _ _ end i e).1
