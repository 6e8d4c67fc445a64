-- `sections::item::places`: the entries before i are filled, and the item that is next stands where those before it end.
-- Assumes nothing.
use Prim.Native.Nat.{◌/◌, ◌≤◌}
use lib.ListN.{length}
use Rattle.records.proofs.Laws.Place.{Filled}
use Rattle.sections.proofs.item.places.Given as goal

abbrev pub invariant-loop-i : goal.invariant-loop-i
invariant-loop-i g l = Filled (g.I.Item.walk l.item l.file) l.n l.first l.places l.i l.next × (l.next ≤ length l.file / 8)
