-- Laws of what one record makes of its fields and of its operands.
--     leaf_constant, leaf_variable                          the own interval of a record without operands, by its form (C3.1)
--     join_arithmetic, join_division                        and of one with two (C3.3, C3.7)
--     combine_sum, combine_difference, combine_product      what each kind of arithmetic combines by
--     combine_in_lem                                            a number combined of two lies in the interval over the ends of theirs
--     divisor_is                                            the divisor, from its interval
--     divide_by                                             what is so of a quotient and of a remainder is so of either by its kind
--     quotient_ends, remainder_ends, remainder_below        between which numbers they lie
--     divide_in_lem                                             so each lies in its interval
-- Assumes nothing.
use mathlib.Core.Path.{◌≡◌, refl}
use mathlib.Core.Bool.{true, false, cond, and-false}
use mathlib.Core.List.{List}
use Prim.Native.Nat.{ℕ}
use native.Mathlib.Omega.{arith}
use borrow.Author.Tests.{le-leb, lt-leb}
use lib.Dec.{eqb}
use lib.IntN.{ℤ, pos, negsuc, nat_abs, ◌+ℤ◌, ◌-ℤ◌, ◌*ℤ◌}
use lib.Signed.{◌≤ℤ◌}
use Rattle.integers.specs.declared.Interval.{Interval}
use Rattle.integers.specs.Interval.{over_ends}
use Rattle.integers.specs.Inside.{In}
use Rattle.integers.specs.Quotient.{quotient, remainder}
use Rattle.truths.proofs.Laws.Truth.{by-test}
use Rattle.integers.proofs.Laws.Parts.{ints}
use Rattle.integers.proofs.Laws.Interval.{max_right_is, sum_in, difference_in, product_in}
use Rattle.integers.proofs.Laws.Floor.{quotient_in, remainder_in, remainder_between}
use Rattle.records.specs.Form.Form.{Constant, Variable, Arithmetic, Division}
use Rattle.records.specs.Record.{kind_at, field_a, value_b, value_c}
use Rattle.records.specs.Form.{form_of, form_at}
use Rattle.records.proofs.Laws.Kind.{form_range}
use Rattle.intervals.specs.Interval.{interval, leaf_of, combine, divide, divided_by, divisor_of, join_of}

module _ (file : List ℕ) (at : ℕ) where
  pub leaf_constant : form_at file at ≡ Constant → leaf_of file at ≡ interval (value_b file at) (value_b file at)
  unfolding leaf_of
  leaf_constant is = rw (form_range (kind_at file at) is)

  pub leaf_variable : form_at file at ≡ Variable → leaf_of file at ≡ interval (value_b file (field_a file at)) (value_c file (field_a file at))
  unfolding leaf_of
  leaf_variable is = rw (form_range (kind_at file at) is)

pub join_arithmetic : (kind : ℕ) → form_of kind ≡ Arithmetic → (i j : Interval) → join_of kind i j ≡ over_ends (combine kind) i j
unfolding join_of
join_arithmetic kind is i j = let r = form_range kind is in rw (le-leb _ _ r.0, le-leb _ _ r.1)

pub join_division : (kind : ℕ) → form_of kind ≡ Division → (i j : Interval) → join_of kind i j ≡ divided_by kind i (divisor_of j)
unfolding join_of
join_division kind is i j =
    let r = form_range kind is in
    rw (lt-leb kind 0x14 (omega arith), and-false, le-leb _ _ r.0, le-leb _ _ r.1)

module _ (x y : ℤ) where
  pub combine_sum : combine 0x12 x y ≡ x +ℤ y
  unfolding combine
  combine_sum = refl

  pub combine_difference : combine 0x13 x y ≡ x -ℤ y
  unfolding combine
  combine_difference = refl

  pub combine_product : combine 0x14 x y ≡ x *ℤ y
  unfolding combine
  combine_product = refl

pub combine_in_lem : (kind : ℕ) {x y : ℤ} {i j : Interval} → In x i → In y j → In (combine kind x y) (over_ends (combine kind) i j)
unfolding combine
combine_in_lem kind {x} {y} {i} {j} h k =
    let last = cond (eqb kind 0x13) ◌-ℤ◌ ◌*ℤ◌ in
    by-test (eqb kind 0x12) (λ t. In (cond t ◌+ℤ◌ last x y) (over_ends (cond t ◌+ℤ◌ last) i j)) (λ e. sum_in h k)
    (λ e. by-test (eqb kind 0x13) (λ t. In (cond t ◌-ℤ◌ ◌*ℤ◌ x y) (over_ends (cond t ◌-ℤ◌ ◌*ℤ◌) i j)) (λ e. difference_in h k) (λ e. product_in h k))

-- ---- quotients and remainders by a divisor above 0
-- the divisor, from the interval of a constant
pub divisor_is : (d : ℤ) → pos 1 ≤ℤ d → divisor_of (interval d d) ≡ d
divisor_is d h = max_right_is (pos 1) d h

module _ {n : ℤ} {i : Interval} (m : In n i) where
  -- a quotient lies between those of the ends, and so does a remainder where these have one quotient
  pub quotient_ends : (d : ℤ) → pos 1 ≤ℤ d → In (divide 0x18 n d) (interval (divide 0x18 i.low d) (divide 0x18 i.high d))
  unfolding divide
  quotient_ends (pos k) h = quotient_in k (omega ints) m
  quotient_ends (negsuc k) h = absurd h.le

  pub remainder_ends : (d : ℤ) → pos 1 ≤ℤ d → divide 0x18 i.low d ≡ divide 0x18 i.high d
      → In (divide 0x19 n d) (interval (divide 0x19 i.low d) (divide 0x19 i.high d))
  unfolding divide
  remainder_ends (pos k) h e = remainder_between k (omega ints) m e
  remainder_ends (negsuc k) h e = absurd h.le

pub remainder_below : (n d : ℤ) → pos 1 ≤ℤ d → In (divide 0x19 n d) (interval (pos 0) (d -ℤ pos 1))
unfolding divide
remainder_below n (pos k) h = remainder_in n k (omega ints)
remainder_below n (negsuc k) h = absurd h.le

-- what is so of a quotient, and of a remainder, is so of either by its kind
pub divide_by : (P : (ℤ → ℤ → ℤ) → Type 0) (kind : ℕ) → (eqb kind 0x18 ≡ true → P (divide 0x18)) → (eqb kind 0x18 ≡ false → P (divide 0x19)) → P (divide kind)
unfolding divide
divide_by P kind q r =
    by-test (eqb kind 0x18) (λ t. P (λ n d. cond t (quotient n (nat_abs d)) (pos (remainder n (nat_abs d))))) q r

pub divide_in_lem : (kind : ℕ) {n : ℤ} {i : Interval} (d : ℤ) → pos 1 ≤ℤ d → In n i → In (divide kind n d) (divided_by kind i d)
unfolding divided_by
divide_in_lem kind {n} {i} d h m =
    divide_by (λ f. In (f n d) (divided_by kind i d)) kind (λ e. rw e (quotient_ends m d h)) (λ e. rw e (remainder_below n d h))
