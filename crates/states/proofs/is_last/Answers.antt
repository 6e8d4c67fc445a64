-- `states::is_last`: the tests of `all` are those of `last_of`. Assumes nothing.
use borrow.Author.Rules.{rules}
use Rattle.states.proofs.Steps.Number.{last_is}
use Rattle.states.proofs.is_last.Goals as goal

pub returns : goal.returns
returns c = last_is c.args.high c.args.state c.all.result (search rules) (search rules) (search rules)
