-- `diagrams::edge_of` meets its contract: the edge of that record.
use native.Mathlib.Omega.{arith}
use Rattle.diagrams.specs.Diagram.{edge_of}
use Rattle.diagrams.proofs.Steps.Diagram.{keeps}
use Rattle.diagrams.proofs.edge_of.Goals as goal

pub overflow_add-diagram : goal.overflow_add-diagram
overflow_add-diagram c = omega (arith, (keeps c.requires.loaded).small, (keeps c.requires.loaded).edge_here _ c.requires.there)

pub edge_at-requires : goal.edge_at-requires
edge_at-requires c = (keeps c.requires.loaded).edge_here _ c.requires.there

pub returns : goal.returns
unfolding edge_of
returns c = c.edge_at.ensures
