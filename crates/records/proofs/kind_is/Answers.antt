-- `records::kind_is` meets its contract: the kind byte is compared where the record is there.
-- Assumes nothing.
use borrow.Author.Tests.{lt-ltb, le-ltb}
use Rattle.records.specs.Record.{kind_is}
use Rattle.records.proofs.kind_is.Goals as goal

pub returns-then-at-file : goal.returns-then-at-file
unfolding kind_is
returns-then-at-file c = simp (lt-ltb _ _ c.if-at-file.true)

pub returns-else-at-file : goal.returns-else-at-file
unfolding kind_is
returns-else-at-file c = simp (le-ltb _ _ c.if-at-file.false)
