-- A digit of a mixed radix: value and offset determine each other within a range. Assumes nothing.
use mathlib.Core.Path.{◌≡◌}
use Prim.Native.Nat.{ℕ, ◌+◌, ◌≤◌, ◌<◌}
use lib.IntN.{ℤ, pos, nat_abs, ◌+ℤ◌, ◌-ℤ◌}
use lib.Signed.{◌≤ℤ◌, ◌<ℤ◌}
use mir.Syntax.{w16}
use mir.Val.{SFits}
use Rattle.integers.specs.Radix.{at, offset_of}
use Rattle.integers.proofs.Laws.Parts.{ints, add_parts, sub_parts, one_part, abs_parts}

module _ (low : ℤ) where
  pub at_above : (k : ℕ) → low ≤ℤ at low k
  unfolding at
  at_above k = omega (ints, add_parts low (pos k))

  pub at_below : (high : ℤ) (k : ℕ) → low ≤ℤ high → k ≤ offset_of low high → at low k ≤ℤ high
  unfolding at offset_of
  at_below high k h l = let z = high -ℤ low in omega (ints, add_parts low (pos k), sub_parts high low, abs_parts z, one_part z)

  pub offset_at : (k : ℕ) → offset_of low (at low k) ≡ k
  unfolding at offset_of
  offset_at k = let z = low +ℤ pos k -ℤ low in omega (ints, add_parts low (pos k), sub_parts (low +ℤ pos k) low, abs_parts z, one_part z)

  pub at_offset : (v : ℤ) → low ≤ℤ v → at low (offset_of low v) ≡ v
  unfolding at offset_of
  at_offset v h = let z = v -ℤ low in omega (ints, add_parts low (pos (nat_abs z)), sub_parts v low, abs_parts z, one_part z)

  pub offset_self : offset_of low low ≡ 0
  unfolding at
  offset_self = let e : at low 0 ≡ low = omega (ints, add_parts low (pos 0)) in rw e at (offset_at 0)

  pub offset_swap : (v : ℤ) → offset_of v low ≡ offset_of low v
  unfolding offset_of
  offset_swap v =
      let y = low -ℤ v in
      let z = v -ℤ low in
      omega (ints, sub_parts v low, sub_parts low v, abs_parts y, one_part y, abs_parts z, one_part z)

  -- the next value is one further from the low end
  pub offset_next : (v : ℤ) → low ≤ℤ v → offset_of low (v +ℤ pos 1) ≡ offset_of low v + 1
  unfolding at
  offset_next v h =
      let o = offset_of low v in
      let e : at low (o + 1) ≡ v +ℤ pos 1 = omega (ints, add_parts low (pos (o + 1)), add_parts low (pos o), add_parts v (pos 1), at_offset v h) in
      rw e at (offset_at (o + 1))

  -- offsets rise with the values
  pub offset_rises : (v high : ℤ) → low ≤ℤ v → v ≤ℤ high → offset_of low v ≤ offset_of low high
  unfolding offset_of
  offset_rises v high h k =
      let y = v -ℤ low in
      let z = high -ℤ low in
      omega (ints, sub_parts v low, sub_parts high low, abs_parts y, one_part y, abs_parts z, one_part z)

  -- between 16-bit numbers they are below 65,536
  pub offset_small : (v : ℤ) → SFits w16 low → SFits w16 v → offset_of low v < 65536
  unfolding offset_of
  offset_small v f g = let z = v -ℤ low in omega (ints, sub_parts v low, abs_parts z, one_part z, one_part low, one_part v)

  -- a greater value is further from the low end
  pub offset_less : (v high : ℤ) → low ≤ℤ v → v <ℤ high → offset_of low v < offset_of low high
  unfolding offset_of
  offset_less v high h k =
      let y = v -ℤ low in
      let z = high -ℤ low in
      omega (ints, sub_parts v low, sub_parts high low, abs_parts y, one_part y, abs_parts z, one_part z)

  -- no value lies between two neighbours
  pub below_next : (v : ℤ) (k : ℕ) → v <ℤ at low (k + 1) → v ≤ℤ at low k
  unfolding at
  below_next v k h = omega (ints, add_parts low (pos k), add_parts low (pos (k + 1)))

  pub above_next : (v : ℤ) (k : ℕ) → at low k <ℤ v → at low (k + 1) ≤ℤ v
  unfolding at
  above_next v k h = omega (ints, add_parts low (pos k), add_parts low (pos (k + 1)))
