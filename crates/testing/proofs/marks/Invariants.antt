-- `testing::marks` meets its contract: the marks are those that the edges passed make.
-- Assumes nothing.
use Rattle.diagrams.specs.Diagram.{edge_of}
use Rattle.conditions.specs.Edges.{carries}
use Rattle.testing.proofs.Laws.Marks.{Marked}
use Rattle.testing.proofs.marks.Given as goal

abbrev pub invariant-loop-e : goal.invariant-loop-e
invariant-loop-e l = Marked 32 l.keep l.node l.diagram.edges 0 (λ i. carries l.node l.transition (edge_of l.file l.diagram i)) (λ i. (edge_of l.file l.diagram i).to) l.marks l.e
