-- `sections::nodes` meets its contract: the section of nodes.
-- Assumes nothing.
use Rattle.sections.specs.Section.{nodes_of}
use Rattle.sections.proofs.Laws.Section.{node_bound}
use Rattle.sections.proofs.nodes.Goals as goal

pub items-requires-clause-onward : goal.items-requires-clause-onward
items-requires-clause-onward c = λ i end e. (node_bound _ _ _ i end e).0

pub returns : goal.returns
unfolding nodes_of
returns c = c.items.ensures
