-- Laws of the numbers of states.
--     count_pos, size_pos                there is a state at least, and a value in each range
--     count_self, count_set              one where no range has more than a value; at most so many times more where one variable has
--     below_high                         an offset below the size of a range is that of a value in it
--     number_below, state_within         a state has a number below the count, and such a number a state (C4.5)
--     state_of_number, number_of_state   each determines the other (C4.5)
--     number_unique                      no two states have one number (C4.5)
--     first_number, first_state          number 0 is the state of the low ends
--     advance_within                     the move forward leads to a state
--     advance_number, advance_next       from any state but the last, to the one numbered one higher (C4.6)
--     advance_last                       and from the last to the first
--     last_number, next_number           the last state has the last number and starts anew; any other moves on by one
-- Assumes nothing.
use mathlib.Core.Path.{◌≡◌, refl, sym, ap, ◌∙◌}
use mathlib.Core.Bool.{Bool, true, false, cond, ◌&&◌, and-eq-true_iff, and-true}
use mathlib.Core.List.{List, [], ◌∷◌}
use Prim.Native.Nat.{ℕ, zero, suc, ◌+◌, ◌*◌, ◌/◌, ◌%◌, ◌<◌, ◌≤◌}
use native.Mathlib.Nat.{mul-pos, mul_assoc, mul_comm, mul-le-mul_left, div-add-mod', div-lt_iff_lt-mul, mod-lt, add-mul, one-mul, zero-mul}
use native.Mathlib.Omega.{arith}
use lib.Arith.{digits_lt, digits_div, digits_mod, lt-one}
use lib.IntN.{ℤ, pos, ◌+ℤ◌}
use lib.ListN.{get_or, set}
use lib.Signed.{le_z, lt_z, ◌≤ℤ◌, ≤ℤ_refl}
use Rattle.integers.specs.Radix.{at, offset_of}
use Rattle.truths.proofs.Laws.Truth.{by-test}
use Rattle.integers.proofs.Laws.Parts.{ints, add_parts}
use Rattle.integers.proofs.Laws.Radix.{at_above, at_below, offset_at, at_offset, offset_self, offset_swap, offset_next, offset_rises}
use Rattle.states.specs.State.{Within}
use Rattle.states.specs.Ranges.{Ranges}
use Rattle.states.specs.Ranges.Ranges.{none as no_ranges, more as more_ranges}
use Rattle.states.specs.State.Within.{none as no_values, more as more_values}
use Rattle.states.specs.Number.{size_of, count_of, state_of, number_of}
use Rattle.states.specs.Advance.{last_of, advance_of}
use Rattle.states.proofs.Laws.State.{within_ranges}

pub size_pos : (low high : ℤ) → 0 < size_of low high
unfolding size_of
size_pos low high = omega arith

pub size_self : (x : ℤ) → size_of x x ≡ 1
unfolding size_of
size_self x = rw (offset_self x) refl

pub size_swap : (low high : ℤ) → size_of high low ≡ size_of low high
unfolding size_of
size_swap low high = rw (offset_swap low high) refl

pub count_none : count_of [] [] ≡ 1
unfolding count_of
count_none = refl

pub count_more : (low high : ℤ) (lows highs : List ℤ) → count_of (low ∷ lows) (high ∷ highs) ≡ size_of low high * count_of lows highs
unfolding count_of
count_more low high lows highs = refl

pub count_pos : (lows highs : List ℤ) → 0 < count_of lows highs
unfolding count_of
count_pos [] highs = omega arith
count_pos (low ∷ lows) [] = omega arith
count_pos (low ∷ lows) (high ∷ highs) = mul-pos (size_pos low high) (count_pos lows highs)

pub count_self : (state : List ℤ) → count_of state state ≡ 1
count_self [] = count_none
count_self (x ∷ state) = rw (count_more, size_self, count_self state)

-- a range more, where there was one value
pub count_set : (low high : ℤ) (i : ℕ) (lows highs : List ℤ) → get_or lows i (pos 0) ≡ get_or highs i (pos 0)
    → count_of (set lows i low) (set highs i high) ≤ count_of lows highs * size_of low high
unfolding count_of
count_set low high i [] highs e = omega (arith, size_pos low high)
count_set low high zero (x ∷ lows) [] e = omega (arith, size_pos low high)
count_set low high (suc i) (x ∷ lows) [] e = omega (arith, size_pos low high)
count_set low high zero (x ∷ lows) (y ∷ highs) e = rw (e, size_self, one-mul, mul_comm) (omega arith)
count_set low high (suc i) (x ∷ lows) (y ∷ highs) e = rw mul_assoc (mul-le-mul_left (size_of x y) (count_set low high i lows highs e))

-- ---- a state and its number

offset_below : {low high value : ℤ} → low ≤ℤ value → value ≤ℤ high → offset_of low value < size_of low high
unfolding size_of
offset_below {low} {high} {value} p q = omega (arith, offset_rises low value high p q)

pub below_high : {low high : ℤ} (k : ℕ) → low ≤ℤ high → k < size_of low high → at low k ≤ℤ high
unfolding size_of
below_high {low} {high} k p l = at_below low high k p (omega arith)

pub number_below : {lows highs state : List ℤ} → Within lows highs state → number_of lows highs state < count_of lows highs
unfolding number_of count_of
number_below no_values = omega arith
number_below (more_values p q w) = digits_lt (offset_below p q) (number_below w)

pub state_of_number : {lows highs state : List ℤ} → Within lows highs state → state_of lows highs (number_of lows highs state) ≡ state
unfolding number_of state_of
state_of_number no_values = refl
state_of_number (more_values {low} {high} {value} p q w) =
    let o = offset_of low value in
    rw (digits_div o (number_below w), digits_mod o (number_below w), at_offset low value p, state_of_number w)

pub number_of_state : {lows highs : List ℤ} → Ranges lows highs → (n : ℕ) → n < count_of lows highs → number_of lows highs (state_of lows highs n) ≡ n
unfolding number_of count_of state_of
number_of_state no_ranges n l = sym (lt-one l)
number_of_state (more_ranges {low} {high} {lows} {highs} p r) n l =
    rw (offset_at, number_of_state r (n % count_of lows highs) (mod-lt n (count_pos lows highs))) (div-add-mod' n (count_of lows highs))

pub state_within : {lows highs : List ℤ} → Ranges lows highs → (n : ℕ) → n < count_of lows highs → Within lows highs (state_of lows highs n)
unfolding count_of state_of
state_within no_ranges n l = no_values
state_within (more_ranges {low} {high} {lows} {highs} p r) n l =
    let d = n / count_of lows highs in
    let some = count_pos lows highs in
    more_values (at_above low d) (below_high d p ((div-lt_iff_lt-mul some).1 l)) (state_within r (n % count_of lows highs) (mod-lt n some))

-- so no two states have one number
pub number_unique : {lows highs s t : List ℤ} → Within lows highs s → Within lows highs t → number_of lows highs s ≡ number_of lows highs t → s ≡ t
number_unique {lows} {highs} v w e = sym (state_of_number v) ∙ ap (state_of lows highs) e ∙ state_of_number w

-- ---- the first state

lows_within : {lows highs : List ℤ} → Ranges lows highs → Within lows highs lows
lows_within no_ranges = no_values
lows_within (more_ranges {low} p r) = more_values (≤ℤ_refl low) p (lows_within r)

pub first_number : {lows highs : List ℤ} → Ranges lows highs → number_of lows highs lows ≡ 0
unfolding number_of
first_number no_ranges = refl
first_number (more_ranges {low} p r) = rw (offset_self low, first_number r, zero-mul)

pub first_state : {lows highs : List ℤ} → Ranges lows highs → state_of lows highs 0 ≡ lows
first_state {lows} {highs} r = ap (state_of lows highs) (sym (first_number r)) ∙ state_of_number (lows_within r)

-- ---- the move forward

module _ {low high value : ℤ} (p : low ≤ℤ value) (q : value ≤ℤ high) where
  moved : (b : Bool)
      → (low ≤ℤ cond b (cond (lt_z value high) (value +ℤ pos 1) low) value) × (cond b (cond (lt_z value high) (value +ℤ pos 1) low) value ≤ℤ high)
  moved false = (p, q)
  moved true =
      by-test (lt_z value high) (λ t. (low ≤ℤ cond t (value +ℤ pos 1) low) × (cond t (value +ℤ pos 1) low ≤ℤ high))
      (λ is. (omega (ints, add_parts value (pos 1)), omega (ints, add_parts value (pos 1))))
      (λ is. (≤ℤ_refl low, omega ints))

pub advance_within : {lows highs state : List ℤ} → Within lows highs state → Within lows highs (advance_of lows highs state)
unfolding advance_of
advance_within no_values = no_values
advance_within (more_values {low} {high} {value} {lows} {highs} {state} p q w) =
    let m = moved p q (last_of highs state) in
    more_values m.0 m.1 (advance_within w)

-- the last state has the last number, and starts anew
pub last_number : {lows highs state : List ℤ} → Within lows highs state → last_of highs state ≡ true
    → (number_of lows highs state + 1 ≡ count_of lows highs) × (advance_of lows highs state ≡ lows)
unfolding last_of number_of count_of advance_of size_of
last_number no_values e = (refl, refl)
last_number (more_values {low} {high} {value} {lows} {highs} {state} p q w) e =
    let t = (and-eq-true_iff (le_z high value) (last_of highs state)).0 e in
    let ih = last_number w t.1 in
    let z : value ≡ high = omega (ints, t.0) in
    let n : lt_z value high ≡ false = omega (ints, t.0) in
    (rw (z, add-mul (offset_of low high) 1 (count_of lows highs), one-mul) (omega (arith, ih.0)), rw (t.1, n, ih.1))

-- any other moves on by one
pub next_number : {lows highs state : List ℤ} → Within lows highs state → last_of highs state ≡ false
    → number_of lows highs (advance_of lows highs state) ≡ number_of lows highs state + 1
unfolding last_of number_of advance_of
next_number no_values e = let z : ◌≡◌ {A = ℕ} 0 1 = cc in absurd (omega arith)
next_number (more_values {low} {high} {value} {lows} {highs} {state} p q w) e = by_last (last_of highs state) refl (next_number w) e
  where
    by_last : (b : Bool) → last_of highs state ≡ b
        → (last_of highs state ≡ false → number_of lows highs (advance_of lows highs state) ≡ number_of lows highs state + 1)
        → (le_z high value && last_of highs state) ≡ false
        → offset_of low (cond (last_of highs state) (cond (lt_z value high) (value +ℤ pos 1) low) value) * count_of lows highs
        + number_of lows highs (advance_of lows highs state)
        ≡ offset_of low value * count_of lows highs + number_of lows highs state + 1
    by_last false is ih f = rw (is, ih is) (omega arith)
    by_last true is ih f =
        let h = last_number w is in
        let g : le_z high value ≡ false = rw (is, and-true) at f in
        let t : lt_z value high ≡ true = omega ints in
        rw (is, t, h.1, offset_next low value p, first_number (within_ranges w), add-mul (offset_of low value) 1 (count_of lows highs), one-mul)
        (omega (arith, h.0))

pub advance_number : {lows highs state : List ℤ} → Within lows highs state → number_of lows highs state + 1 < count_of lows highs
    → number_of lows highs (advance_of lows highs state) ≡ number_of lows highs state + 1
advance_number {lows} {highs} {state} w l =
    by-test (last_of highs state) (λ _. number_of lows highs (advance_of lows highs state) ≡ number_of lows highs state + 1)
    (λ is. absurd (omega (arith, (last_number w is).0))) (next_number w)

pub advance_next : {lows highs : List ℤ} → Ranges lows highs → (n : ℕ) → n + 1 < count_of lows highs
    → advance_of lows highs (state_of lows highs n) ≡ state_of lows highs (n + 1)
advance_next {lows} {highs} r n l =
    let m : n < count_of lows highs = omega arith in
    let w = state_within r n m in
    let e = number_of_state r n m in
    sym (state_of_number (advance_within w)) ∙ ap (state_of lows highs) (advance_number w (rw e l) ∙ rw e)

pub advance_last : {lows highs state : List ℤ} → Within lows highs state → number_of lows highs state + 1 ≡ count_of lows highs
    → advance_of lows highs state ≡ state_of lows highs 0
advance_last {lows} {highs} {state} w e =
    by-test (last_of highs state) (λ _. advance_of lows highs state ≡ state_of lows highs 0)
    (λ is. (last_number w is).1 ∙ sym (first_state (within_ranges w)))
    (λ is. absurd (omega (arith, next_number w is, number_below (advance_within w))))
