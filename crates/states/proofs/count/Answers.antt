-- `states::count`: the product is the count of the states of the variables from i on (`Counted`). Assumes nothing.
use borrow.Author.Rules.{rules}
use mathlib.Core.Path.{◌≡◌}
use Prim.Native.Nat.{◌-◌, ◌*◌}
use native.Mathlib.Omega.{arith}
use Rattle.states.proofs.Laws.State.{ranges_at}
use Rattle.states.proofs.Steps.Number.{size_at, Counted, counted_begin, counted_step, counted_most, counted_end}
use Rattle.states.proofs.count.Goals as goal
use Rattle.states.proofs.count.Goals.{After-size-product}

pub loop-i-init : goal.loop-i-init
loop-i-init c = counted_begin _ _ (search rules) (search rules)

pub size-product-requires : goal.size-product-requires
size-product-requires c = let r = ranges_at c.requires.ranges (c.loop-i.i - 1) in search rules

-- the variable is counted in
counted_next : (c : After-size-product) → Counted c.args.low c.args.high (c.loop-i.product * c.size-product.result) (c.loop-i.i - 1)
counted_next c =
    let size : c.size-product.result ≡ size_at c.args.low c.args.high (c.loop-i.i - 1) = search rules in
    rw size (counted_step _ _ _ _ c.loop-i.invariant c.loop-i-test.true)

pub overflow_mul-product : goal.overflow_mul-product
overflow_mul-product c =
    let asked = c.requires in
    record { fits = omega (arith, counted_most _ _ asked.ranges _ _ (counted_next c), asked.most) }

pub loop-i-preserved : goal.loop-i-preserved
loop-i-preserved c = counted_next c

pub returns : goal.returns
returns c = counted_end _ _ _ _ c.loop-i.invariant c.loop-i-test.false
