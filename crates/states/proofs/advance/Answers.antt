-- `states::advance`: the variables from i on were at their high ends and start anew (`Carried`). Assumes nothing.
use borrow.Author.Rules.{rules}
use mathlib.Core.Path.{◌≡◌}
use mathlib.Core.Bool.{true}
use Prim.Native.Nat.{◌-◌}
use lib.IntN.{ℤ, pos, ◌+ℤ◌}
use lib.ListN.{get_or}
use lib.Signed.{lt_z}
use mir.Syntax.{w16}
use mir.Val.{SFits}
use mir.Facts.{to_z-of_z}
use Rattle.integers.proofs.Laws.Parts.{ints, add_parts, one_part}
use Rattle.states.proofs.Steps.Number.{carried_begin, carried_end, carried_at, carried_more, carried_done}
use Rattle.states.proofs.advance.Goals as goal

pub loop-i-init : goal.loop-i-init
loop-i-init c = carried_begin _ _ _ _ (search rules) (search rules) (search rules) (search rules) c.requires.idle

-- what is below a 16-bit number may move on
next_fits : (v h : ℤ) → SFits w16 v → SFits w16 h → lt_z v h ≡ true → SFits w16 (v +ℤ pos 1)
next_fits v h f g e = let z = v +ℤ pos 1 in omega (ints, add_parts v (pos 1), one_part v, one_part h, one_part z)

pub overflow_add-next : goal.overflow_add-next
overflow_add-next c =
    let f : SFits w16 (get_or c.loop-i.next (c.loop-i.i - 1) (pos 0)) = search rules in
    let g : SFits w16 (get_or c.args.high (c.loop-i.i - 1) (pos 0)) = search rules in
    rw (to_z-of_z f) (next_fits _ _ f g (rw (to_z-of_z f, to_z-of_z g) at c.if-next-i.true))

pub returns-then-next-i : goal.returns-then-next-i
returns-then-next-i c =
    let v = carried_at _ _ _ _ _ c.loop-i.invariant c.loop-i-test.true in
    let f : SFits w16 (get_or c.loop-i.next (c.loop-i.i - 1) (pos 0)) = search rules in
    let g : SFits w16 (get_or c.args.high (c.loop-i.i - 1) (pos 0)) = search rules in
    let e = rw (to_z-of_z f, to_z-of_z g) at c.if-next-i.true in
    rw (to_z-of_z f, to_z-of_z (next_fits _ _ f g e), v) (carried_done _ _ _ _ _ c.loop-i.invariant c.loop-i-test.true (rw v at e))

pub loop-i-preserved : goal.loop-i-preserved
loop-i-preserved c =
    let v = carried_at _ _ _ _ _ c.loop-i.invariant c.loop-i-test.true in
    let f : SFits w16 (get_or c.loop-i.next (c.loop-i.i - 1) (pos 0)) = search rules in
    let g : SFits w16 (get_or c.args.high (c.loop-i.i - 1) (pos 0)) = search rules in
    let h : SFits w16 (get_or c.args.low (c.loop-i.i - 1) (pos 0)) = search rules in
    let e = rw (to_z-of_z f, to_z-of_z g, v) at c.if-next-i.false in
    rw (to_z-of_z h) (carried_more _ _ _ _ _ c.loop-i.invariant c.loop-i-test.true e)

pub returns : goal.returns
returns c = carried_end _ _ _ _ _ c.loop-i.invariant c.loop-i-test.false
