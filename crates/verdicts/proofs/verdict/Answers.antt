-- `verdicts::verdict` meets its contract, by the case that reading answers.
-- Assumes nothing.
use mathlib.Core.Path.{sym}
use native.Mathlib.Omega.{arith}
use Rattle.diagrams.proofs.Laws.Diagram.{find_refuses}
use Rattle.verdicts.proofs.Steps.Verdict.{loads}
use Rattle.verdicts.proofs.verdict.Goals as goal

pub judge-requires : goal.judge-requires
judge-requires c = loads (sym c.in-Ok.ensures) c.diagram_of.ensures

pub refused-requires : goal.refused-requires
refused-requires c = omega (arith, (find_refuses _ _ (sym c.in-Err.ensures)).1)
