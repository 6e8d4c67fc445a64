-- `domains::extents::rises`, where the two quotients are compared, by their bits. Assumes nothing.
use borrow.Author.Tests.{ne_eqb}
use mir.Facts.{to_z-of_z}
use Rattle.integers.proofs.Laws.Equality.{bits_equal}
use Rattle.domains.specs.Extent.{rises_of}
use Rattle.domains.proofs.extents.rises.Goals as goal

pub returns-else-kind-eq24 : goal.returns-else-kind-eq24
unfolding rises_of
returns-else-kind-eq24 c =
    let a = c.divide in
    let b = c.divide-else-kind-eq24 in
    let f = c.ranges in
    rw (
      bits_equal (record { sfits = a.type_inv }) (record { sfits = b.type_inv }),
      a.ensures,
      b.ensures,
      to_z-of_z f.low,
      to_z-of_z f.high,
      to_z-of_z f.d,
      ne_eqb _ _ c.if-kind-eq24.false,
    )
