-- `integers::floor::quotient` meets its contract: above 0 a divisor rounds down as Euclid's does. Assumes nothing.
use borrow.Author.Rules.{rules}
use Rattle.integers.proofs.Laws.Floor.{div_euclid_is}
use Rattle.integers.proofs.floor.quotient.Goals as goal

pub returns : goal.returns
returns c = let e = div_euclid_is c.args.n c.args.d c.requires in search rules
