-- The measure is the levels left; at one level `operand` comes before `number_at`.
use Prim.Native.Nat.{◌+◌, ◌*◌}
use Rattle.expressions.proofs.+number_at_operand_truth_at.Given as goal

abbrev pub decreases-number_at : goal.decreases-number_at
decreases-number_at l = 2 * l.levels

abbrev pub decreases-operand : goal.decreases-operand
decreases-operand l = 2 * l.levels + 1

abbrev pub decreases-truth_at : goal.decreases-truth_at
decreases-truth_at l = 2 * l.levels
