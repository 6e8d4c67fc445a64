-- `reading::edges::rules`: what refuses the edges left refuses all.
-- Assumes nothing.
use mathlib.Core.Path.{◌≡◌}
use Prim.Native.Nat.{◌-◌}
use Rattle.shapes.specs.declared.Refusal.{Refusal}
use Rattle.records.specs.Walk.{refuse_first}
use Rattle.reading.specs.Edge.{rule_of, rules_of}
use Rattle.reading.proofs.edges.rules.Given as goal

abbrev pub invariant-loop-at : goal.invariant-loop-at
invariant-loop-at l = rules_of l.file l.outline ≡ refuse_first Refusal.Edge (rule_of l.file l.outline) (l.end - l.at) l.at
