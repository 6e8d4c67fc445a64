-- `ranges::ends`: with the ends of v variables filled in, the table is that of v variables.
-- Assumes nothing.
use borrow.Author.Rules.{rules}
use mathlib.Core.Path.{sym}
use native.Mathlib.Omega.{arith}
use Rattle.ranges.proofs.Steps.Range.{ends_none, ends_more}
use Rattle.ranges.proofs.ends.Goals as goal

pub loop-v-init : goal.loop-v-init
loop-v-init c = sym (ends_none _ _)

pub loop-v-preserved : goal.loop-v-preserved
loop-v-preserved c = let e = ends_more c.args.file.now c.args.field c.loop-v.v (omega arith) in search rules
