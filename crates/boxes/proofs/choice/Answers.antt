-- `boxes::choice` meets its contract: the variable blamed is one of the twelve and has more than one value, or not. Assumes nothing.
use borrow.Author.Rules.{rules}
use borrow.Author.Tests.{lt-ltb, le-ltb}
use Rattle.boxes.specs.Half.{choice_of}
use Rattle.boxes.proofs.choice.Goals as goal
use Rattle.boxes.proofs.choice.Goals.{else-blamed-lt12-via-then-blamed-lt12+else-b-blamed, else-blamed-lt12-via-else-blamed-lt12}

pub returns-then-b-blamed : goal.returns-then-b-blamed
unfolding choice_of
returns-then-b-blamed c = let t = lt-ltb _ _ c.if-blamed-lt12.true in search rules

pub returns-else-blamed-lt12 : goal.returns-else-blamed-lt12
unfolding choice_of
returns-else-blamed-lt12 c = elim c.else-blamed-lt12.branch [
  | else-blamed-lt12-via-then-blamed-lt12+else-b-blamed w ↦ let t = lt-ltb _ _ w.if-blamed-lt12.true in search rules
  | else-blamed-lt12-via-else-blamed-lt12 w ↦ let t = le-ltb _ _ w.if-blamed-lt12.false in search rules
]
