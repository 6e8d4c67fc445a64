-- `integers::bytes::low_byte` meets its contract. Assumes nothing.
use borrow.Author.Rules.{rules}
use Rattle.integers.specs.Bytes.{low_byte}
use Rattle.integers.proofs.bytes.low_byte.Goals as goal

pub returns : goal.returns
unfolding low_byte
returns c = search rules
