-- `integers::floor::remainder` meets its contract. Assumes nothing.
use borrow.Author.Rules.{rules}
use Rattle.integers.proofs.Laws.Floor.{rem_euclid_is}
use Rattle.integers.proofs.floor.remainder.Goals as goal

pub returns : goal.returns
returns c = let e = rem_euclid_is c.args.n c.args.d c.requires in search rules
