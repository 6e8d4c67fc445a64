-- `integers::bytes::signed16` meets its contract. Assumes nothing.
use borrow.Author.Rules.{rules}
use Rattle.integers.specs.Bytes.{signed16}
use Rattle.integers.proofs.bytes.signed16.Goals as goal

pub returns : goal.returns
unfolding signed16
returns c = search rules
