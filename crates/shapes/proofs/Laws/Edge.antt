-- Laws of an edge by itself.
--     double_from_lem, from_double     an edge is a double one from a node exactly if it is double and leads from that node
-- Assumes nothing.
use mathlib.Core.Path.{◌≡◌}
use mathlib.Core.Bool.{true, and-eq-true_iff}
use Prim.Native.Nat.{ℕ}
use borrow.Author.Tests.{eqb-true, eq-eqb}
use lib.Dec.{eqb}
use Rattle.shapes.specs.declared.Edge.{Edge}
use Rattle.shapes.specs.Edge.{double_from}

module _ (e : Edge) {node : ℕ} where
  pub double_from_lem : double_from node e ≡ true → (e.double ≡ true) × (e.from ≡ node)
  unfolding double_from
  double_from_lem d = let p = (and-eq-true_iff e.double (eqb e.from node)).0 d in (p.0, eqb-true _ _ p.1)

  pub from_double : e.double ≡ true → e.from ≡ node → double_from node e ≡ true
  unfolding double_from
  from_double d n = rw (d, eq-eqb _ _ n)
