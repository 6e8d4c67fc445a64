-- `expressions::spans::spans_of`: from `at` on the table is the definition's. Assumes nothing.
use mathlib.Core.Path.{◌≡◌, ◌∙◌}
use Prim.Native.Nat.{ℕ, ◌+◌, ◌-◌, ◌/◌, ◌<◌, ◌≤◌}
use native.Mathlib.Omega.{arith}
use mathlib.Core.List.{List}
use lib.ListN.{length}
use Rattle.expressions.proofs.Steps.Span.{SpansFilled, past, past_none, past_more, past_within, filled_begin, filled_more, filled_end}
use Rattle.expressions.proofs.spans.spans_of.Goals as goal

-- the table is filled behind the record before `at`, and no operand there ends beyond the file
module _ {file table : List ℕ} (at : ℕ) (h : 0 < at) (f : SpansFilled file table at) where
  filled : SpansFilled file table (at - 1 + 1)
  filled = let e : at - 1 + 1 ≡ at = omega arith in rw e f

  within : (n : ℕ) {end : ℕ} → end ≡ past table (at - 1 + 1) n → (at ≤ end) × (end ≤ length file / 8)
  within n e = let w = past_within (at - 1) filled n in (omega arith, omega arith)

pub loop-at-init : goal.loop-at-init
loop-at-init c = filled_begin _

pub loop-init : goal.loop-init
loop-init c = past_none _ _

pub end_of-behind-requires : goal.end_of-behind-requires
end_of-behind-requires c = omega (arith, within _ c.loop-at-test.true c.loop-at.invariant _ c.loop.invariant)

pub loop-preserved : goal.loop-preserved
loop-preserved c = c.end_of-behind.ensures ∙ past_more _ _ _ c.loop.invariant

pub overflow_sub-spans : goal.overflow_sub-spans
overflow_sub-spans c = omega (arith, within _ c.loop-at-test.true c.loop-at.invariant _ c.loop.invariant)

pub overflow_cast-spans : goal.overflow_cast-spans
overflow_cast-spans c = omega (arith, within _ c.loop-at-test.true c.loop-at.invariant _ c.loop.invariant)

pub loop-at-preserved : goal.loop-at-preserved
loop-at-preserved c =
    filled_more _ (filled _ c.loop-at-test.true c.loop-at.invariant) (omega arith) c.signature_at.ensures (omega arith) c.loop.invariant

pub returns : goal.returns
returns c = filled_end _ c.loop-at-test.false c.loop-at.invariant
