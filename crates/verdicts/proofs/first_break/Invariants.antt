-- `verdicts::first_break` meets its contract: the conditions before `number` are true, and the condition at hand holds in the states before n.
-- Assumes nothing.
use Prim.Native.Nat.{◌-◌}
use Rattle.conditions.specs.Condition.{condition_at}
use Rattle.testing.specs.Holding.{condition_holds}
use Rattle.verdicts.proofs.Steps.Verdict.{Searched}
use Rattle.searching.proofs.Laws.Scan.{StatesPassed}
use Rattle.verdicts.proofs.first_break.Given as goal

abbrev pub invariant-states : goal.invariant-states
invariant-states l = StatesPassed l.diagram (condition_holds l.file l.diagram (condition_at l.file l.diagram l.number)) l.state l.n

abbrev pub decreases-states : goal.decreases-states
decreases-states l = l.states - l.n

abbrev pub invariant-conditions : goal.invariant-conditions
invariant-conditions l = Searched l.file l.diagram l.number

abbrev pub decreases-conditions : goal.decreases-conditions
decreases-conditions l = l.total - l.number
