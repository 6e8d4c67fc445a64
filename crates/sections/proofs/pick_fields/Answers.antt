-- `sections::pick_fields` meets its contract: the tests in turn, the last apart.
-- Assumes nothing.
use lib.Dec.{ltb}
use lib.Signed.{le_z}
use mathlib.Core.Path.{◌≡◌}
use mathlib.Core.Bool.{◌&&◌}
use Prim.Native.Nat.{◌+◌, ◌*◌}
use Rattle.std.proofs.Common.{arith}
use Rattle.std.proofs.lemmas.Grind.{common_steps}
use Rattle.records.specs.Record.{field_a, value_b, value_c, zeros_of}
use Rattle.sections.specs.Section.{pick_fields}
use Rattle.sections.proofs.pick_fields.Goals as goal

pub returns-then-value_at-low : goal.returns-then-value_at-low
unfolding pick_fields
returns-then-value_at-low c = grind (arith, common_steps)

pub returns-else-value_at-low : goal.returns-else-value_at-low
unfolding pick_fields
returns-else-value_at-low c =
    let file = c.args.file.now in
    let at = c.args.at in
    let a = field_a file at in
    let named : c.if-a-vars.value ≡ (ltb a c.args.vars && zeros_of file (8 * at + 6) 2) = grind (arith, common_steps) in
    let ordered : c.if-zeros.value ≡ (c.if-a-vars.value && le_z (value_b file at) (value_c file at)) = grind (arith, common_steps) in
    let low : c.if-low-high.value ≡ (c.if-zeros.value && le_z (value_b file a) (value_b file at)) = grind (arith, common_steps) in
    rw (← named, ← ordered, ← low, c.if-value_at-low.false)
