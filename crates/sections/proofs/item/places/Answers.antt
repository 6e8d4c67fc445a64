-- `sections::item::places`: the entries before i are filled, and the item that is next stands where those before it end.
-- Assumes nothing.
use mathlib.Core.Path.{sym, ◌∙◌}
use Rattle.records.proofs.Laws.Place.{filled_begins, filled_done, filled_more, filled_refused}
use Rattle.sections.proofs.item.places.Goals as goal

pub loop-i-init : goal.loop-i-init
loop-i-init g c = (filled_begins (g.I.Item.walk _ _) _ _ c.requires.few.0, c.requires.few.1)

pub walk-requires : goal.walk-requires
walk-requires g c = c.requires.walkable _ c.loop-i.invariant.1

pub returns-in_default : goal.returns-in_default
returns-in_default g c =
    let refused = sym c.walk.ensures ∙ c.in_default.is in
    filled_refused _ _ _ _ _ _ c.loop-i.invariant.0 c.loop-i-test.true _ refused

pub loop-i-preserved : goal.loop-i-preserved
loop-i-preserved g c =
    let ends = sym c.walk.ensures ∙ c.in-Ok.is in
    (filled_more _ _ _ _ _ _ c.loop-i.invariant.0 c.loop-i-test.true _ ends, c.requires.within _ _ ends)

pub returns : goal.returns
returns g c = filled_done _ _ _ _ _ _ c.loop-i.invariant.0 c.loop-i-test.false
