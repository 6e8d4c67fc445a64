-- Laws of the property's record.
--     property_known                     a property whose fields are right claims something known
--     property_nodes                     it counts 1 to 32 phases, if any (C1.11)
--     phases_counted, phases_limit       as many nodes as phases where they are counted, else the limit
--     expressions_are                    p where it stands before q, then the q's (C1.12)
-- Assumes nothing.
use mathlib.Core.Path.{◌≡◌, refl}
use mathlib.Core.Bool.{Bool, true, false, cond, ◌&&◌, and-eq-true_iff}
use mathlib.Core.List.{List}
use Prim.Native.Nat.{ℕ, ◌+◌, ◌*◌, ◌≤◌}
use native.Mathlib.Omega.{arith}
use borrow.Author.Tests.{leb-true}
use lib.Dec.{leb}
use Rattle.records.specs.Record.{field_b, zeros_of}
use Rattle.sections.specs.Section.{property_at, phases_fit, property_fields, phases_or, expressions_of}

phases_fit_lem : (b : ℕ) → phases_fit true b ≡ true → (1 ≤ b) × (b ≤ 32)
unfolding phases_fit
phases_fit_lem b e = let p = (and-eq-true_iff (leb 1 b) (leb b 32)).0 e in (leb-true 1 b p.0, leb-true b 32 p.1)

module _ (file : List ℕ) (at : ℕ) where
  pub phases_counted : (limit : ℕ) → (property_at file at).phased ≡ true → phases_or file at limit ≡ field_b file at
  unfolding phases_or
  phases_counted limit e = rw e

  pub phases_limit : (limit : ℕ) → (property_at file at).phased ≡ false → phases_or file at limit ≡ limit
  unfolding phases_or
  phases_limit limit e = rw e

  pub expressions_are : expressions_of file at ≡ cond (property_at file at).entry 1 0 + phases_or file at 1
  unfolding expressions_of
  expressions_are = refl

  module _ (right : property_fields file at ≡ true) where
    parts : ((property_at file at).known ≡ true) × (phases_fit (property_at file at).phased (field_b file at) ≡ true)
    unfolding property_fields
    parts =
        let p = (and-eq-true_iff ((property_at file at).known && phases_fit (property_at file at).phased (field_b file at)) (zeros_of file (8 * at + 4) 4)).0 right in
        (and-eq-true_iff (property_at file at).known (phases_fit (property_at file at).phased (field_b file at))).0 p.0

    pub property_known : (property_at file at).known ≡ true
    property_known = parts.0

    pub property_nodes : (1 ≤ phases_or file at 1) × (phases_or file at 32 ≤ 32)
    property_nodes = by (property_at file at).phased refl parts.1
      where
        by : (phased : Bool) → (property_at file at).phased ≡ phased → phases_fit phased (field_b file at) ≡ true
            → (1 ≤ phases_or file at 1) × (phases_or file at 32 ≤ 32)
        by true is e = rw (phases_counted 1 is, phases_counted 32 is) (phases_fit_lem _ e)
        by false is e = rw (phases_limit 1 is, phases_limit 32 is) (omega arith, omega arith)
