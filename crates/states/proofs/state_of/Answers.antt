-- `states::state_of`: the variables from i on have their values, and `rest` is what they leave of the number (`Digits`). Assumes nothing.
use borrow.Author.Rules.{rules}
use mathlib.Core.Path.{◌≡◌}
use Prim.Native.Nat.{◌-◌, ◌%◌, ◌<◌}
use native.Mathlib.Nat.{mod-lt}
use native.Mathlib.Omega.{arith}
use Rattle.states.proofs.Laws.State.{ranges_at}
use Rattle.states.proofs.Laws.Number.{size_pos, below_high}
use Rattle.states.proofs.Steps.Number.{size_at, digits_begin, digits_step, digits_end}
use Rattle.integers.specs.Radix.{at}
use Rattle.integers.proofs.Laws.Parts.{back}
use lib.IntN.{pos}
use lib.ListN.{get_or}
use lib.Signed.{◌≤ℤ◌}
use mir.Syntax.{w16}
use Rattle.states.proofs.state_of.Goals as goal
use Rattle.states.proofs.state_of.Goals.{After-size-n}

pub loop-i-init : goal.loop-i-init
loop-i-init c = digits_begin _ _ _ (search rules) (search rules)

pub size-n-requires : goal.size-n-requires
size-n-requires c = let r = ranges_at c.requires.ranges (c.loop-i.i - 1) in search rules

size_is : (c : After-size-n) → c.size-n.result ≡ size_at c.args.low c.args.high (c.loop-i.i - 1)
size_is c = search rules

size_some : (c : After-size-n) → 0 < c.size-n.result
size_some c = rw (size_is c) (size_pos _ _)

pub nonzero_rem-rest : goal.nonzero_rem-rest
nonzero_rem-rest c = size_some (goal.at.nonzero_rem-rest c).After-size-n

pub overflow_cast-rest : goal.overflow_cast-rest
overflow_cast-rest c =
    let l : c.loop-i.rest % c.size-n.result < c.size-n.result = mod-lt _ (size_some (goal.at.overflow_cast-rest c).After-size-n) in
    record { fits = omega arith }

pub value_at-requires : goal.value_at-requires
value_at-requires c =
    let j = c.loop-i.i - 1 in
    let b : at (get_or c.args.low j (pos 0)) (c.loop-i.rest % c.size-n.result) ≤ℤ get_or c.args.high j (pos 0) =
    rw (size_is (goal.at.value_at-requires c).After-size-n) (below_high _ (ranges_at c.requires.ranges j) (mod-lt _ (size_pos _ _))) in
    search rules

pub nonzero_div-rest : goal.nonzero_div-rest
nonzero_div-rest c = size_some (goal.at.nonzero_div-rest c).After-size-n

pub loop-i-preserved : goal.loop-i-preserved
loop-i-preserved c =
    let e = size_is (goal.at.loop-i-preserved c).After-size-n in
    let v : c.value_at.result ≡ at (get_or c.args.low (c.loop-i.i - 1) (pos 0)) (c.loop-i.rest % c.size-n.result) = search rules in
    rw (back w16 c.value_at.result c.value_at.type_inv, v, e) (digits_step _ _ _ _ _ _ c.loop-i.invariant c.loop-i-test.true)

pub returns : goal.returns
returns c = digits_end _ _ _ _ _ _ c.loop-i.invariant c.loop-i-test.false c.requires.below
