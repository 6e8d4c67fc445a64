-- `integers::radix::offset_of` meets its contract. Assumes nothing.
use borrow.Author.Rules.{rules}
use Rattle.integers.specs.Radix.{offset_of}
use Rattle.integers.proofs.radix.offset_of.Goals as goal

pub returns : goal.returns
unfolding offset_of
returns c = search rules
