-- One box of the search: what is asked to halve it.
-- Assumes nothing.
use mathlib.Core.Path.{◌≡◌}
use Prim.Native.Nat.{ℕ, ◌<◌}
use native.Mathlib.Omega.{arith}
use lib.IntN.{pos}
use lib.ListN.{length, get_or}
use lib.Signed.{◌<ℤ◌}
use Rattle.boxes.specs.declared.Box.{Box}
use Rattle.boxes.specs.Box.{Part}
use Rattle.boxes.specs.Half.{wide_of, choice_of, lower_of, upper_of}
use Rattle.boxes.proofs.Laws.Half.{first_wide_lem, chosen_wide, lower_part, upper_part}

-- ---- the variable to halve at
module _ (b : Box) (long : length b.low ≡ 12) (high : length b.high ≡ 12) {wide : ℕ} (is : wide ≡ wide_of b.low b.high) (l : wide < 12) where
  pub wide_asks : (wide < 12) × (get_or b.low wide (pos 0) <ℤ get_or b.high wide (pos 0))
  wide_asks = (l, rw is (first_wide_lem b.low b.high (omega (arith, is, l, long)) (omega (arith, is, l, high))))

  pub choice_asks : (blamed : ℕ) {v : ℕ} → v ≡ choice_of b blamed wide → (v < 12) × (get_or b.low v (pos 0) <ℤ get_or b.high v (pos 0))
  choice_asks blamed e = rw e (chosen_wide b blamed wide l wide_asks.1)

module _ {ranges b : Box} (p : Part ranges b) {v : ℕ} (asked : (v < 12) × (get_or b.low v (pos 0) <ℤ get_or b.high v (pos 0))) where
  pub lower_is_part : {half : Box} → half ≡ lower_of b v → Part ranges half
  lower_is_part e = rw e (lower_part p v asked.1)

  pub upper_is_part : {half : Box} → half ≡ upper_of b v → Part ranges half
  upper_is_part e = rw e (upper_part p v asked.1)
