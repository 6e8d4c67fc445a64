-- `diagrams::assertions` meets its contract: the first i entries are set, those beyond are zero.
use mathlib.Core.Path.{◌≡◌}
use Rattle.diagrams.specs.Diagram.{assertions_of}
use Rattle.diagrams.proofs.assertions.Given as goal

abbrev pub invariant-loop-i : goal.invariant-loop-i
invariant-loop-i l = l.places ≡ assertions_of l.nodes l.i
