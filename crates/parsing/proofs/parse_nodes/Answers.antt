-- `parsing::parse_nodes` meets its contract: the nodes are counted, and whether there are enough, then the edges, and whether they end the file.
-- Assumes nothing.
use Rattle.std.proofs.Common.{arith}
use Rattle.std.proofs.lemmas.Grind.{common_steps}
use Rattle.parsing.specs.Outline.{nodes_parsed}
use Rattle.parsing.proofs.parse_nodes.Goals as goal

pub returns-in_err-nodes : goal.returns-in_err-nodes
unfolding nodes_parsed
returns-in_err-nodes c = grind (arith, common_steps)

pub returns-then-nodes-phases_or : goal.returns-then-nodes-phases_or
unfolding nodes_parsed
returns-then-nodes-phases_or c = grind (arith, common_steps)

pub returns-in_err-edges : goal.returns-in_err-edges
unfolding nodes_parsed
returns-in_err-edges c = grind (arith, common_steps)

pub returns-then-edges-file : goal.returns-then-edges-file
unfolding nodes_parsed
returns-then-edges-file c = grind (arith, common_steps)

pub returns : goal.returns
unfolding nodes_parsed
returns c = grind (arith, common_steps)
