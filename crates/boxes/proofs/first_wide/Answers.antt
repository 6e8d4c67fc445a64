-- `boxes::first_wide`: the tests of `position` are those of `wide_of`. Assumes nothing.
use borrow.Author.Rules.{rules}
use Rattle.boxes.proofs.Steps.{first_is}
use Rattle.boxes.proofs.first_wide.Goals as goal

pub returns : goal.returns
returns c = let w = first_is c.args.b.low c.args.b.high c.position.result (search rules) (search rules) (search rules) in search rules
