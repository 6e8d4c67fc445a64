-- `verdicts::answer` meets its contract, by the case that reading answers.
-- Assumes nothing.
use mathlib.Core.Path.{sym}
use Rattle.verdicts.proofs.Steps.Verdict.{loads}
use Rattle.verdicts.proofs.answer.Goals as goal

pub try_single-requires : goal.try_single-requires
try_single-requires c = loads (sym c.in_ok-outline.ensures) c.diagram_of.ensures
