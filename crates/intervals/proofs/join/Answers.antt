-- `intervals::join`: the tests of the kind are those of `join_of`.
-- Assumes nothing.
use native.Mathlib.Omega.{arith}
use mathlib.Core.Path.{◌≡◌, ◌∙◌}
use mathlib.Core.Bool.{and-false}
use borrow.Author.Tests.{le-leb, lt-leb}
use lib.IntN.{pos}
use mir.Syntax.{w64}
use mir.Val.{to_z, of_z}
use mir.Facts.{to_z-of_z}
use Rattle.integers.proofs.Laws.Parts.{back}
use Rattle.integers.proofs.Laws.Bounds.{in_fits}
use Rattle.integers.proofs.Laws.Interval.{max_left, int_max_flipped}
use Rattle.intervals.specs.Interval.{divisor_of, join_of}
use Rattle.intervals.proofs.join.Goals as goal
use Rattle.intervals.proofs.join.Goals.{After-max}

-- the divisor
chosen : (c : After-max) → to_z w64 (of_z w64 c.max.result) ≡ divisor_of c.args.j
chosen c =
    let m = c.max in
    rw (back w64 m.result m.type_inv, m.ensures.value, to_z-of_z (in_fits c.requires.right.low)) (int_max_flipped c.args.j.low (pos 1))

pub divided-requires : goal.divided-requires
divided-requires c = rw (chosen c) (max_left _ _)

pub returns-in-18-to-20 : goal.returns-in-18-to-20
unfolding join_of
returns-in-18-to-20 c =
    let kind = c.args.kind in
    c.combined.ensures ∙ rw (le-leb 0x12 kind (omega arith), le-leb kind 0x14 (omega arith))

pub returns-in-24-to-25 : goal.returns-in-24-to-25
unfolding join_of
returns-in-24-to-25 c =
    let kind = c.args.kind in
    c.divided.ensures
    ∙ rw (chosen c.before, lt-leb kind 0x14 (omega arith), and-false, le-leb 0x18 kind (omega arith), le-leb kind 0x19 (omega arith))

pub returns-in_default : goal.returns-in_default
unfolding join_of
returns-in_default c = let kind = c.args.kind in rw (lt-leb 0x12 kind (omega arith), lt-leb 0x18 kind (omega arith))

pub returns-in_default-2 : goal.returns-in_default-2
unfolding join_of
returns-in_default-2 c =
    let kind = c.args.kind in
    rw (lt-leb kind 0x14 (omega arith), and-false, lt-leb 0x18 kind (omega arith))

pub returns-in_default-3 : goal.returns-in_default-3
unfolding join_of
returns-in_default-3 c =
    let kind = c.args.kind in
    rw (lt-leb kind 0x14 (omega arith), and-false, lt-leb kind 0x19 (omega arith), and-false)
