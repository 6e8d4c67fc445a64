-- The table of ends as it is filled: with v of the variables' ends it is the table of v variables.
-- Assumes nothing.
use mathlib.Core.Path.{◌≡◌}
use mathlib.Core.List.{List}
use Prim.Native.Nat.{ℕ, ◌+◌, ◌*◌, ◌<◌}
use lib.IntN.{pos}
use lib.ListN.{set, replicate}
use Rattle.records.specs.Record.{value}
use Rattle.truths.proofs.Laws.Table.{table_none, table_more}
use Rattle.ranges.specs.Range.{ends_of}

module _ (file : List ℕ) (field : ℕ) where
  pub ends_none : ends_of file 0 field ≡ replicate 12 (pos 0)
  unfolding ends_of
  ends_none = table_none 12 (pos 0) (λ v. value file (8 * v + field))

  pub ends_more : (v : ℕ) → v < 12 → set (ends_of file v field) v (value file (8 * v + field)) ≡ ends_of file (v + 1) field
  unfolding ends_of
  ends_more v l = table_more 12 (pos 0) (λ v. value file (8 * v + field)) v l
