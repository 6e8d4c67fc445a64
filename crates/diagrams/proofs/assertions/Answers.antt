-- `diagrams::assertions` meets its contract: the first i entries are set, those beyond are zero.
use mathlib.Core.Path.{sym}
use native.Mathlib.Omega.{arith}
use Rattle.diagrams.proofs.Steps.Diagram.{assertions_none, assertions_more}
use Rattle.diagrams.proofs.assertions.Goals as goal

pub loop-i-init : goal.loop-i-init
loop-i-init c = sym (assertions_none _)

pub loop-i-preserved : goal.loop-i-preserved
loop-i-preserved c = assertions_more _ _ c.loop-i.invariant (omega arith)
