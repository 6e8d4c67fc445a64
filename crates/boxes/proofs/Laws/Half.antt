-- Laws of boxes and their halves.
--     whole                       the ranges are a part of themselves
--     part_inside, low_inside     a part has only states of the whole, and its low ends are one
--     part_length                 it has as many variables
--     single                      a box with no wide variable has one state
--     first_wide_lem                  the first wide variable is wide
--     chosen_wide                 so is the one chosen
--     lower_part, upper_part      the halves are parts
--     in_half                     a state of the box lies in one of them
-- Assumes nothing.
use mathlib.Core.Path.{◌≡◌, refl, ap}
use mathlib.Core.Bool.{cond, ◌&&◌, and-eq-true_iff}
use mathlib.Core.Logic.{◌⊎◌, inl, inr, ⊎_elim}
use mathlib.Core.List.{List, [], ◌∷◌}
use Prim.Native.Nat.{ℕ, zero, suc, ◌+◌, ◌/◌, ◌<◌, ◌≤◌}
use native.Mathlib.Omega.{arith}
use borrow.Author.Tests.{ltb-true}
use lib.Dec.{ltb}
use lib.IntN.{ℤ, pos}
use lib.ListN.{length, get_or, set}
use lib.Signed.{lt_z, ◌≤ℤ◌, ◌<ℤ◌, ≤ℤ_refl}
use Rattle.integers.specs.Radix.{at, offset_of}
use Rattle.truths.proofs.Laws.Truth.{by-test}
use Rattle.integers.proofs.Laws.Parts.{ints, le_or_lt, ≤ℤ_trans, ≤ℤ_antisym}
use Rattle.integers.proofs.Laws.Radix.{at_above, at_below, offset_less, above_next}
use Rattle.states.specs.State.{Within}
use Rattle.states.specs.Ranges.{Ranges}
use Rattle.states.specs.Ranges.Ranges.{none as no_ranges, more as more_ranges}
use Rattle.states.specs.State.Within.{none as no_values, more as more_values}
use Rattle.boxes.specs.declared.Box.{Box}
use Rattle.boxes.specs.Box.{Inside, Nested, Part}
use Rattle.boxes.specs.Box.Nested.{none, more}
use Rattle.boxes.specs.Half.{wide_of, choice_of, halfway_of, lower_of, upper_of}

pub whole : {lows highs : List ℤ} → Ranges lows highs → Nested lows highs lows highs
whole no_ranges = none
whole (more_ranges p r) = more (≤ℤ_refl _) p (≤ℤ_refl _) (whole r)

pub part_inside : {leasts mosts lows highs state : List ℤ} → Nested leasts mosts lows highs → Within lows highs state → Within leasts mosts state
part_inside none no_values = no_values
part_inside (more a b c n) (more_values p q w) = more_values (≤ℤ_trans a p) (≤ℤ_trans q c) (part_inside n w)

pub low_inside : {leasts mosts lows highs : List ℤ} → Nested leasts mosts lows highs → Within lows highs lows
low_inside none = no_values
low_inside (more a b c n) = more_values (≤ℤ_refl _) b (low_inside n)

pub part_length : {leasts mosts lows highs : List ℤ} → Nested leasts mosts lows highs → (length lows ≡ length leasts) × (length highs ≡ length leasts)
part_length none = (refl, refl)
part_length (more a b c n) = let e = part_length n in (ap suc e.0, ap suc e.1)

pub single : {leasts mosts lows highs state : List ℤ} → Nested leasts mosts lows highs → length lows ≤ wide_of lows highs → Within lows highs state → state ≡
    lows
unfolding wide_of
single none l no_values = refl
single (more {low = low} {high} {lows = lows} {highs} a b c n) l (more_values {value = value} {state = state} p q w) =
    by-test (lt_z low high) (λ t. suc (length lows) ≤ cond t 0 (suc (wide_of lows highs)) → value ∷ state ≡ low ∷ lows)
    (λ is k. absurd (omega arith))
    (λ is k.
    let e : value ≡ low = ≤ℤ_antisym (omega ints) p in
    let d = single n (omega arith) w in
    rw (e, d)) l

pub first_wide_lem : (lows highs : List ℤ) → wide_of lows highs < length lows → wide_of lows highs < length highs
    → get_or lows (wide_of lows highs) (pos 0) <ℤ get_or highs (wide_of lows highs) (pos 0)
unfolding wide_of
first_wide_lem [] highs l m = absurd (omega arith)
first_wide_lem (low ∷ lows) [] l m = absurd (omega arith)
first_wide_lem (low ∷ lows) (high ∷ highs) l m =
    by-test (lt_z low high)
    (λ t. cond t 0 (suc (wide_of lows highs)) < suc (length lows) → cond t 0 (suc (wide_of lows highs)) < suc (length highs)
    → get_or (low ∷ lows) (cond t 0 (suc (wide_of lows highs))) (pos 0) <ℤ get_or (high ∷ highs) (cond t 0 (suc (wide_of lows highs))) (pos 0))
    (λ is x y. omega ints)
    (λ is x y. first_wide_lem lows highs (omega arith) (omega arith)) l m

-- ---- the variable to halve at

module _ (b : Box) where
  pub chosen_wide : (blamed other : ℕ) → (other < 12) → get_or b.low other (pos 0) <ℤ get_or b.high other (pos 0)
      → (choice_of b blamed other < 12) × (get_or b.low (choice_of b blamed other) (pos 0) <ℤ get_or b.high (choice_of b blamed other) (pos 0))
  unfolding choice_of
  chosen_wide blamed other l w =
      by-test (ltb blamed 12 && lt_z (get_or b.low blamed (pos 0)) (get_or b.high blamed (pos 0)))
      (λ t. (cond t blamed other < 12) × (get_or b.low (cond t blamed other) (pos 0) <ℤ get_or b.high (cond t blamed other) (pos 0)))
      (λ is.
      let e = (and-eq-true_iff (ltb blamed 12) (lt_z (get_or b.low blamed (pos 0)) (get_or b.high blamed (pos 0)))).0 is in
      (ltb-true blamed 12 e.0, omega (ints, e.1)))
      (λ is. (l, w))

-- ---- halves

-- the end of the lower half, and the next value, which the upper half begins with
module _ {l h : ℤ} (less : l <ℤ h) where
  abbrev half : ℕ
  half = offset_of l h / 2

  pub half_between : (l ≤ℤ at l half) × (at l half ≤ℤ h)
  half_between = (at_above l half, at_below l h half (omega ints) (omega arith))

  pub behind_between : (l ≤ℤ at l (half + 1)) × (at l (half + 1) ≤ℤ h)
  behind_between = (at_above l (half + 1), at_below l h (half + 1) (omega ints) (omega (arith, offset_less l l h (≤ℤ_refl l) less)))

high_part : {leasts mosts lows highs : List ℤ} {m : ℤ} → Nested leasts mosts lows highs → (v : ℕ) → get_or lows v (pos 0) ≤ℤ m → m ≤ℤ get_or highs v (pos 0)
    → Nested leasts mosts lows (set highs v m)
high_part none v l k = none
high_part (more a b c n) zero l k = more a l (≤ℤ_trans k c) n
high_part (more a b c n) (suc v) l k = more a b c (high_part n v l k)

low_part : {leasts mosts lows highs : List ℤ} {m : ℤ} → Nested leasts mosts lows highs → (v : ℕ) → get_or lows v (pos 0) ≤ℤ m → m ≤ℤ get_or highs v (pos 0)
    → Nested leasts mosts (set lows v m) highs
low_part none v l k = none
low_part (more a b c n) zero l k = more (≤ℤ_trans a l) k c n
low_part (more a b c n) (suc v) l k = more a b c (low_part n v l k)

high_inside : {lows highs state : List ℤ} {m : ℤ} → Within lows highs state → (v : ℕ) → get_or state v (pos 0) ≤ℤ m → Within lows (set highs v m) state
high_inside no_values v l = no_values
high_inside (more_values p q w) zero l = more_values p l w
high_inside (more_values p q w) (suc v) l = more_values p q (high_inside w v l)

from_inside : {lows highs state : List ℤ} {m : ℤ} → Within lows highs state → (v : ℕ) → m ≤ℤ get_or state v (pos 0) → Within (set lows v m) highs state
from_inside no_values v l = no_values
from_inside (more_values p q w) zero l = more_values l q w
from_inside (more_values p q w) (suc v) l = more_values p q (from_inside w v l)

module _ {ranges b : Box} (n : Part ranges b) (v : ℕ) (wide : get_or b.low v (pos 0) <ℤ get_or b.high v (pos 0)) where
  pub lower_part : Part ranges (lower_of b v)
  unfolding lower_of halfway_of
  lower_part = let k = half_between wide in high_part n v k.0 k.1

  pub upper_part : Part ranges (upper_of b v)
  unfolding upper_of halfway_of
  upper_part = let k = behind_between wide in low_part n v k.0 k.1

pub in_half : (b : Box) (v : ℕ) {state : List ℤ} → Inside b state → Inside (lower_of b v) state ⊎ Inside (upper_of b v) state
unfolding lower_of upper_of
in_half b v {state} w =
    let l = get_or b.low v (pos 0) in
    ⊎_elim (λ k. inl (high_inside w v k)) (λ k. inr (from_inside w v (above_next l (get_or state v (pos 0)) (halfway_of b v) k)))
    (le_or_lt (get_or state v (pos 0)) (at l (halfway_of b v)))
