-- `report::put_values` meets its contract: at the loop's head the report has the bytes of the first i values.
-- Assumes nothing.
use borrow.Author.Rules.{rules}
use Rattle.report.proofs.Steps.Report.{filled_begin, filled_more, filled_end}
use Rattle.report.proofs.put_values.Goals as goal

pub loop-i-init : goal.loop-i-init
loop-i-init c = filled_begin _ _ c.requires (search rules)

pub loop-i-preserved : goal.loop-i-preserved
loop-i-preserved c = filled_more _ _ c.requires (search rules) c.loop-i.invariant (search rules) (search rules) (search rules)

pub returns : goal.returns
returns c = filled_end _ _ c.requires (search rules) c.loop-i.invariant (search rules)
