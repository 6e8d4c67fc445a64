-- The line has the digits of the first i bytes, and in the end of all.
use Rattle.std.proofs.Common.{rules}
use Rattle.vdcheck.proofs.Steps.Printing.{spelt_begin, spelt_more, spelt_end}
use Rattle.vdcheck.proofs.printing.line.Goals as goal

pub loop-i-init : goal.loop-i-init
loop-i-init c = spelt_begin _

pub loop-i-preserved : goal.loop-i-preserved
loop-i-preserved c = spelt_more _ (search rules) c.loop-i.invariant (search rules) (search rules) (search rules)

pub returns : goal.returns
returns c = spelt_end _ (search rules) c.loop-i.invariant (search rules)
