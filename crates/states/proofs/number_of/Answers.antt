-- `states::number_of`: the number and the count are those of the variables from i on (`Numbered`). Assumes nothing.
use borrow.Author.Rules.{rules}
use mathlib.Core.Path.{◌≡◌}
use Prim.Native.Nat.{◌+◌, ◌*◌, ◌-◌, ◌≤◌}
use native.Mathlib.Omega.{arith}
use Rattle.states.proofs.Laws.State.{within_at, within_ranges, ranges_at}
use Rattle.states.proofs.Steps.Number.{size_at, Numbered, counted_most, numbered_begin, numbered_step, numbered_below, numbered_end}
use Rattle.integers.specs.Radix.{offset_of}
use Rattle.states.proofs.number_of.Goals as goal
use Rattle.states.proofs.number_of.Goals.{After-offset_of, After-size-behind}
use lib.IntN.{pos}
use lib.ListN.{get_or}

pub loop-i-init : goal.loop-i-init
loop-i-init c = numbered_begin _ _ _ (search rules) (search rules) (search rules)

pub offset_of-requires : goal.offset_of-requires
offset_of-requires c = let w = within_at c.requires.within (c.loop-i.i - 1) in search rules

-- the variable is numbered, and counted
numbered_next : (c : After-offset_of)
    → Numbered c.args.low c.args.high c.args.state (c.loop-i.number + c.offset_of.result * c.loop-i.behind)
    (c.loop-i.behind * size_at c.args.low c.args.high (c.loop-i.i - 1)) (c.loop-i.i - 1)
numbered_next c =
    let j = c.loop-i.i - 1 in
    let e : c.offset_of.result ≡ offset_of (get_or c.args.low j (pos 0)) (get_or c.args.state j (pos 0)) = search rules in
    rw e (numbered_step _ _ _ _ _ _ c.loop-i.invariant c.loop-i-test.true)

number_most : (c : After-offset_of) → c.loop-i.number + c.offset_of.result * c.loop-i.behind ≤ 1048576
number_most c =
    let asked = c.requires in
    omega (arith, numbered_below _ _ _ asked.within _ _ _ (numbered_next c), asked.most)

pub overflow_mul-number : goal.overflow_mul-number
overflow_mul-number c = record { fits = omega (arith, number_most c) }

pub overflow_add-number : goal.overflow_add-number
overflow_add-number c = record { fits = omega (arith, number_most c) }

pub size-behind-requires : goal.size-behind-requires
size-behind-requires c = let r = ranges_at (within_ranges c.requires.within) (c.loop-i.i - 1) in search rules

size_is : (c : After-size-behind) → c.size-behind.result ≡ size_at c.args.low c.args.high (c.loop-i.i - 1)
size_is c = search rules

pub overflow_mul-behind : goal.overflow_mul-behind
overflow_mul-behind c =
    let asked = c.requires in
    let most = counted_most _ _ (within_ranges asked.within) _ _ (numbered_next (goal.at.overflow_mul-behind c).After-offset_of).counted in
    rw (size_is c) (record { fits = omega (arith, most, asked.most) })

pub loop-i-preserved : goal.loop-i-preserved
loop-i-preserved c = rw (size_is c) (numbered_next (goal.at.loop-i-preserved c).After-offset_of)

pub returns : goal.returns
returns c = numbered_end _ _ _ _ _ _ c.loop-i.invariant c.loop-i-test.false
