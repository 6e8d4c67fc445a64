-- `sections::transitions` meets its contract: the section of transitions.
-- Assumes nothing.
use Rattle.sections.specs.Section.{transitions_of}
use Rattle.sections.proofs.Laws.Section.{transition_bound}
use Rattle.sections.proofs.transitions.Goals as goal

pub items-requires-clause-onward : goal.items-requires-clause-onward
items-requires-clause-onward c = λ i end e. (transition_bound _ _ end i e).0

pub returns : goal.returns
unfolding transitions_of
returns c = c.items.ensures
