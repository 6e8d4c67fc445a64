-- `searching::skip` meets its contract: what it asks, of the whole ranges.
-- Assumes nothing.
use borrow.Author.Rules.{rules}
use Rattle.boxes.proofs.Laws.Half.{whole}
use Rattle.searching.proofs.Laws.Search.{end_before}
use Rattle.searching.proofs.skip.Goals as goal

pub decide-whole-requires-clause-part : goal.decide-whole-requires-clause-part
decide-whole-requires-clause-part c = whole c.requires.ranges

pub narrow-state-requires-clause-part : goal.narrow-state-requires-clause-part
narrow-state-requires-clause-part c = whole c.requires.ranges

pub number_of-number-requires-clause-within : goal.number_of-number-requires-clause-within
number_of-number-requires-clause-within c =
    let p = c.requires in
    rw c.narrow-state.ensures (end_before _ _ p.fits (search rules) p.ranges _).within
