-- One step of `picks_from`, as the loop over the records takes it.
-- Assumes nothing.
use mathlib.Core.Path.{◌≡◌}
use mathlib.Core.List.{List}
use Prim.Native.Nat.{ℕ, suc, ◌+◌, ◌-◌, ◌<◌, ◌≤◌}
use native.Mathlib.Omega.{arith}
use borrow.Author.Tests.{le-leb, lt-leb}
use Rattle.std.specs.declared.result.Result.TheVariants.{Ok, Err}
use Rattle.shapes.specs.declared.Refusal.{Refusal}
use Rattle.reading.specs.declared.product.Combined.{Combined}
use Rattle.reading.specs.Picks.{past_record, picks_from}

module _ (file : List ℕ) (records at : ℕ) (p : Combined) where
  pub picks_end : records ≤ at → picks_from file (records - at) at p ≡ Ok at
  unfolding picks_from
  picks_end l = let z : records - at ≡ 0 = omega arith in rw z

  module _ {q : Combined} (is : q ≡ past_record file at p) (more : at < records) where
    pub picks_over : 4096 < q.product → picks_from file (records - at) at p ≡ Err (Refusal.Picks q.place)
    unfolding picks_from
    picks_over o = let z : records - at ≡ suc (records - (at + 1)) = omega arith in rw (z, ← is, lt-leb _ _ o)

    pub picks_step : q.product ≤ 4096 → picks_from file (records - at) at p ≡ picks_from file (records - (at + 1)) (at + 1) q
    unfolding picks_from
    picks_step o = let z : records - at ≡ suc (records - (at + 1)) = omega arith in rw (z, ← is, le-leb _ _ o)

pub ruleset picks_steps = (picks_end, picks_over, picks_step)
