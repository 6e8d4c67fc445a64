-- Laws of how many states a file has: the product of its ranges, variable by variable.
--     product_whole     it is the product of the twelve ranges from the first on (C4.3)
--     product_more      the product from a variable on: its size times that from the next one on (C4.3)
--     product_lacked    a variable that the file lacks has one value (C4.3)
-- Assumes nothing.
use mathlib.Core.Path.{◌≡◌}
use mathlib.Core.Bool.{cond}
use mathlib.Core.List.{List}
use Prim.Native.Nat.{ℕ, zero, suc, ◌+◌, ◌*◌, ◌<◌, ◌≤◌}
use native.Mathlib.Omega.{arith}
use borrow.Author.Tests.{lt-ltb, le-ltb}
use lib.Dec.{ltb}
use lib.IntN.{ℤ, pos}
use Rattle.records.specs.Record.{value, value_b, value_c}
use Rattle.truths.specs.Table.{tabulate}
use Rattle.truths.proofs.Laws.Table.{tabulate_none, tabulate_more, table_tabulate}
use Rattle.ranges.specs.Range.{ends_of, lows_of, highs_of}
use Rattle.states.specs.Number.{size_of, count_of}
use Rattle.states.proofs.Laws.Number.{size_self, count_none, count_more}

module _ (file : List ℕ) (vars : ℕ) where
  -- entry v of a table of ends
  abbrev end : ℕ → ℕ → ℤ
  end field v = cond (ltb v vars) (value file (8 * v + field)) (pos 0)

  -- the product of n ranges, from variable `at` on
  unfoldable pub product_from : ℕ → ℕ → ℕ
  product_from n at = count_of (tabulate (end 2) n at) (tabulate (end 4) n at)

  pub product_whole : count_of (lows_of file vars) (highs_of file vars) ≡ product_from 12 0
  unfolding ends_of product_from
  product_whole = simp table_tabulate

  pub product_more : (n at : ℕ) → at < vars → product_from (suc n) at ≡ size_of (value_b file at) (value_c file at) * product_from n (at + 1)
  unfolding product_from
  product_more n at l = simp (tabulate_more, count_more, lt-ltb at vars l)

  pub product_lacked : (n at : ℕ) → vars ≤ at → product_from n at ≡ 1
  unfolding product_from
  product_lacked zero at l = simp (tabulate_none, count_none)
  product_lacked (suc n) at l = simp (tabulate_more, count_more, le-ltb at vars l, size_self) (rw (product_lacked n (at + 1) (omega arith)))
