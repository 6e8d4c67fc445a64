-- `boxes::lower` meets its contract: the end lies between the ends that are there. Assumes nothing.
use borrow.Author.Rules.{rules}
use Rattle.boxes.specs.Half.{lower_of, halfway_of}
use Rattle.boxes.proofs.Laws.Half.{half_between}
use Rattle.boxes.proofs.lower.Goals as goal

pub value_at-requires : goal.value_at-requires
value_at-requires c = let b = (half_between c.requires.wide).1 in search rules

pub returns : goal.returns
unfolding lower_of halfway_of
returns c = search rules
