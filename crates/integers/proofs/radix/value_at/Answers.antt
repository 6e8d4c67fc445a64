-- `integers::radix::value_at` meets its contract: the value lies between low and high, so it fits. Assumes nothing.
use lib.IntN.{pos, ◌+ℤ◌}
use mir.Syntax.{w16}
use mir.Val.{SFits}
use Rattle.integers.specs.Radix.{at}
use borrow.Author.Rules.{rules}
use Rattle.integers.proofs.Laws.Parts.{ints, one_part, add_parts}
use Rattle.integers.proofs.radix.value_at.Goals as goal
use Rattle.integers.proofs.radix.value_at.Goals.{Start}

fits : (s : Start) → SFits w16 (s.args.low +ℤ pos s.args.offset)
unfolding at
fits s =
    let low = s.args.low in
    let v = low +ℤ pos s.args.offset in
    omega (ints, add_parts low (pos s.args.offset), one_part v, one_part low, one_part s.args.high)

pub overflow_cast-result : goal.overflow_cast-result
overflow_cast-result c = let f = fits c.before.before in search rules

pub returns : goal.returns
unfolding at
returns c = let f = fits c.before.before in search rules
