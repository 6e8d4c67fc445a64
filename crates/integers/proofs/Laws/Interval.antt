-- Interval arithmetic is sound: a sum, a difference and a product of numbers lies in the interval over the operands' ends.
-- One argument for all three: an operation that, in each operand, keeps what it gives between what it gives at the ends. Assumes nothing.
use mathlib.Core.Path.{◌≡◌, refl}
use mathlib.Core.Logic.{◌⊎◌, inl, inr}
use mathlib.Core.Bool.{true, false, cond, and-eq-true_iff}
use Prim.Native.Nat.{ℕ, suc}
use native.Mathlib.Nat.{mul-le-mul_left}
use lib.IntN.{ℤ, pos, negsuc, ◌+ℤ◌, ◌-ℤ◌, ◌*ℤ◌, *ℤ_comm}
use lib.Signed.{le_z, lt_z, ◌≤ℤ◌}
use Rattle.std.specs.Int.{int_min, int_max}
use Rattle.std.specs.Ordering.{is_le, int_cmp}
use Rattle.std.proofs.Common.{Less, Equal, Greater}
use Rattle.integers.specs.declared.Interval.{Interval}
use Rattle.integers.specs.Interval.{min_z, max_z, around, over_ends, between, bounds, in_bounds}
use Rattle.integers.specs.Inside.{In, Bounded}
use Rattle.truths.proofs.Laws.Truth.{by-test}
use Rattle.integers.proofs.Laws.Parts.{ints, ≤ℤ_trans, ≤_parts, add_parts, sub_parts, mul_parts}

-- ---- the lesser and the greater of two

module _ (x y : ℤ) where
  pub min_left : min_z x y ≤ℤ x
  unfolding min_z
  min_left = by-test (le_z x y) (λ t. cond t x y ≤ℤ x) (λ h. omega ints) (λ h. omega ints)

  pub min_right : min_z x y ≤ℤ y
  unfolding min_z
  min_right = by-test (le_z x y) (λ t. cond t x y ≤ℤ y) (λ h. omega ints) (λ h. omega ints)

  pub max_left : x ≤ℤ max_z x y
  unfolding max_z
  max_left = by-test (le_z x y) (λ t. x ≤ℤ cond t y x) (λ h. omega ints) (λ h. omega ints)

  pub max_right : y ≤ℤ max_z x y
  unfolding max_z
  max_right = by-test (le_z x y) (λ t. y ≤ℤ cond t y x) (λ h. omega ints) (λ h. omega ints)

  pub max_right_is : x ≤ℤ y → max_z x y ≡ y
  unfolding max_z
  max_right_is h = let e : le_z x y ≡ true = omega ints in rw e

-- the library's
pub int_min_is : (x y : ℤ) → int_min x y ≡ min_z x y
unfolding min_z
int_min_is x y = by-test (le_z x y) (λ t. int_min x y ≡ cond t x y)
    (λ h. let e : lt_z y x ≡ false = omega ints in rw e) (λ h. let e : lt_z y x ≡ true = omega ints in rw e)

pub int_max_is : (x y : ℤ) → int_max x y ≡ max_z x y
unfolding max_z
int_max_is x y = by-test (le_z x y) (λ t. int_max x y ≡ cond t y x)
    (λ h. let e : lt_z y x ≡ false = omega ints in rw e) (λ h. let e : lt_z y x ≡ true = omega ints in rw e)

pub int_max_flipped : (x y : ℤ) → int_max x y ≡ max_z y x
unfolding max_z
int_max_flipped x y = by-test (le_z y x) (λ t. int_max x y ≡ cond t x y)
    (λ h. by-test (lt_z y x) (λ t. cond t x y ≡ x) (λ k. refl) (λ k. omega ints)) (λ h. let e : lt_z y x ≡ false = omega ints in rw e)

-- the least and the greatest of four
module _ (p q r s : ℤ) where
  min_1 : min_z (min_z p q) (min_z r s) ≤ℤ p
  min_1 = omega (ints, min_left (min_z p q) (min_z r s), min_left p q)

  max_1 : p ≤ℤ max_z (max_z p q) (max_z r s)
  max_1 = omega (ints, max_left (max_z p q) (max_z r s), max_left p q)

  min_2 : min_z (min_z p q) (min_z r s) ≤ℤ q
  min_2 = omega (ints, min_left (min_z p q) (min_z r s), min_right p q)

  max_2 : q ≤ℤ max_z (max_z p q) (max_z r s)
  max_2 = omega (ints, max_left (max_z p q) (max_z r s), max_right p q)

  min_3 : min_z (min_z p q) (min_z r s) ≤ℤ r
  min_3 = omega (ints, min_right (min_z p q) (min_z r s), min_left r s)

  max_3 : r ≤ℤ max_z (max_z p q) (max_z r s)
  max_3 = omega (ints, max_right (max_z p q) (max_z r s), max_left r s)

  min_4 : min_z (min_z p q) (min_z r s) ≤ℤ s
  min_4 = omega (ints, min_right (min_z p q) (min_z r s), min_right r s)

  max_4 : s ≤ℤ max_z (max_z p q) (max_z r s)
  max_4 = omega (ints, max_right (max_z p q) (max_z r s), max_right r s)

-- ---- between

-- v lies between p and q, in whichever order they stand
abbrev pub Between : ℤ → ℤ → ℤ → Type 0
Between p q v = ((p ≤ℤ v) × (v ≤ℤ q)) ⊎ ((q ≤ℤ v) × (v ≤ℤ p))

-- a lower bound of two numbers is one of what lies between them, and so for an upper bound
between_low : {m p q v : ℤ} → m ≤ℤ p → m ≤ℤ q → Between p q v → m ≤ℤ v
between_low h k (inl b) = omega ints
between_low h k (inr b) = omega ints

between_high : {m p q v : ℤ} → p ≤ℤ m → q ≤ℤ m → Between p q v → v ≤ℤ m
between_high h k (inl b) = omega ints
between_high h k (inr b) = omega ints

-- in each operand, what the operation gives lies between what it gives at the ends
pub record Betweens (op : ℤ → ℤ → ℤ) : Type 0 where
  pub first : {a x b : ℤ} (y : ℤ) → a ≤ℤ x → x ≤ℤ b → Between (op a y) (op b y) (op x y)
  pub second : {c y d : ℤ} (x : ℤ) → c ≤ℤ y → y ≤ℤ d → Between (op x c) (op x d) (op x y)

pub over_ends_lem : {op : ℤ → ℤ → ℤ} → Betweens op → {x y : ℤ} {i j : Interval} → In x i → In y j → In (op x y) (over_ends op i j)
unfolding over_ends around
over_ends_lem {op} m {x} {y} {i} {j} h k =
    let across = m.first y h.above h.below in
    let at_low = m.second i.low k.above k.below in
    let at_high = m.second i.high k.above k.below in
    let p = op i.low j.low in
    let q = op i.low j.high in
    let r = op i.high j.low in
    let s = op i.high j.high in
    record {
      above = between_low (between_low (min_1 p q r s) (min_2 p q r s) at_low) (between_low (min_3 p q r s) (min_4 p q r s) at_high) across;
      below = between_high (between_high (max_1 p q r s) (max_2 p q r s) at_low) (between_high (max_3 p q r s) (max_4 p q r s) at_high) across;
    }

-- ---- the three operations

pub sum_betweens : Betweens ◌+ℤ◌
sum_betweens = record {
  first = λ {a} {x} {b} y h k. inl (omega (ints, add_parts a y, add_parts x y, add_parts b y));
  second = λ {c} {y} {d} x h k. inl (omega (ints, add_parts x c, add_parts x y, add_parts x d));
}

pub difference_betweens : Betweens ◌-ℤ◌
difference_betweens = record {
  first = λ {a} {x} {b} y h k. inl (omega (ints, sub_parts a y, sub_parts x y, sub_parts b y));
  second = λ {c} {y} {d} x h k. inr (omega (ints, sub_parts x c, sub_parts x y, sub_parts x d));
}

-- a product rises with its first factor where the second is at least 0, and falls where it is below
pub mul_rises : {a x : ℤ} (n : ℕ) → a ≤ℤ x → (a *ℤ pos n) ≤ℤ (x *ℤ pos n)
mul_rises {a} {x} n h = omega (ints, mul-le-mul_left n (≤_parts a x h), mul_parts a (pos n), mul_parts x (pos n))

pub mul_falls : {a x : ℤ} (n : ℕ) → a ≤ℤ x → (x *ℤ negsuc n) ≤ℤ (a *ℤ negsuc n)
mul_falls {a} {x} n h = omega (ints, mul-le-mul_left (suc n) (≤_parts a x h), mul_parts a (negsuc n), mul_parts x (negsuc n))

mul_first : {a x b : ℤ} (y : ℤ) → a ≤ℤ x → x ≤ℤ b → Between (a *ℤ y) (b *ℤ y) (x *ℤ y)
mul_first (pos n) h k = inl (mul_rises n h, mul_rises n k)
mul_first (negsuc n) h k = inr (mul_falls n k, mul_falls n h)

pub product_betweens : Betweens ◌*ℤ◌
product_betweens = record {
  first = mul_first;
  second = λ {c} {y} {d} x h k. rw (*ℤ_comm x c, *ℤ_comm x y, *ℤ_comm x d) (mul_first x h k);
}

-- ---- bounds

-- the library's comparison
pub cmp_le : (x y : ℤ) → is_le (int_cmp x y) ≡ le_z x y
cmp_le x y = by-test (lt_z x y) (λ t. is_le (cond t Less (cond (lt_z y x) Greater Equal)) ≡ le_z x y)
    (λ h. let e : le_z x y ≡ true = omega ints in rw e)
    (λ h. by-test (lt_z y x) (λ t. is_le (cond t Greater Equal) ≡ le_z x y)
    (λ k. let e : le_z x y ≡ false = omega ints in rw e)
    (λ k. let e : le_z x y ≡ true = omega ints in rw e))

between_in : (x : ℤ) → between (negsuc 999999) (pos 1000000) x ≡ true → In x bounds
between_in x e = let b = (and-eq-true_iff (le_z (negsuc 999999) x) (le_z x (pos 1000000))).0 e in record { above = omega ints; below = omega ints }

-- the test of bounds, as what it says of both ends
pub bounded : {i : Interval} → in_bounds i ≡ true → Bounded i
unfolding in_bounds
bounded {i} e =
    let b = (and-eq-true_iff (between (negsuc 999999) (pos 1000000) i.low) (between (negsuc 999999) (pos 1000000) i.high)).0 e in
    record { low = between_in i.low b.0; high = between_in i.high b.1 }

in_between : (x : ℤ) → In x bounds → between (negsuc 999999) (pos 1000000) x ≡ true
in_between x h = (and-eq-true_iff (le_z (negsuc 999999) x) (le_z x (pos 1000000))).1 (omega ints, omega ints)

pub bounded_test : {i : Interval} → Bounded i → in_bounds i ≡ true
unfolding in_bounds
bounded_test {i} b =
    (and-eq-true_iff (between (negsuc 999999) (pos 1000000) i.low) (between (negsuc 999999) (pos 1000000) i.high)).1
    (in_between i.low b.low, in_between i.high b.high)

-- what lies in an interval in bounds lies in bounds
pub in_bounds_lem : {x : ℤ} {i : Interval} → Bounded i → In x i → In x bounds
in_bounds_lem b h = record { above = ≤ℤ_trans b.low.above h.above; below = ≤ℤ_trans h.below b.high.below }

-- an operation's interval is not empty
pub ordered : (op : ℤ → ℤ → ℤ) (i j : Interval) → (over_ends op i j).low ≤ℤ (over_ends op i j).high
unfolding over_ends around
ordered op i j =
    let p = op i.low j.low in
    let q = op i.low j.high in
    let r = op i.high j.low in
    let s = op i.high j.high in
    ≤ℤ_trans (min_1 p q r s) (max_1 p q r s)

-- ---- the three laws

module _ {x y : ℤ} {i j : Interval} (h : In x i) (k : In y j) where
  pub sum_in : In (x +ℤ y) (over_ends ◌+ℤ◌ i j)
  sum_in = over_ends_lem sum_betweens h k

  pub difference_in : In (x -ℤ y) (over_ends ◌-ℤ◌ i j)
  difference_in = over_ends_lem difference_betweens h k

  pub product_in : In (x *ℤ y) (over_ends ◌*ℤ◌ i j)
  product_in = over_ends_lem product_betweens h k
