-- `integers::bytes::high_byte` meets its contract: the bits have no third byte. Assumes nothing.
use borrow.Author.Rules.{rules}
use Rattle.integers.specs.Bytes.{high_byte}
use Rattle.integers.proofs.bytes.high_byte.Goals as goal

pub returns : goal.returns
unfolding high_byte
returns c = search rules
