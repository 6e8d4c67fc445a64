-- `reading::edges::doubles`: what refuses the nodes left refuses all; the node tried is at most the first or the node count, whichever is greater.
-- Assumes nothing.
-- Assumes nothing.
use mathlib.Core.Path.{◌≡◌}
use Prim.Native.Nat.{◌-◌, ◌≤◌, max}
use Rattle.shapes.specs.declared.Refusal.{Refusal}
use Rattle.records.specs.Walk.{refuse_first}
use Rattle.reading.specs.Edge.{doubled_of, doubles_of}
use Rattle.reading.proofs.edges.doubles.Given as goal

abbrev pub invariant-loop-node : goal.invariant-loop-node
invariant-loop-node l =
    (doubles_of l.file l.outline ≡ refuse_first Refusal.NoWayDown (doubled_of l.file l.outline) (l.outline.nodes - l.node) l.node)
    × (l.node ≤ max l.property.from l.outline.nodes)
