-- Laws of halving a box at its first wide variable: what lies before it in the order of the states' numbers.
--     slab_whole                the ranges are a slab
--     slab_lower, slab_upper    the halves of a slab are slabs
--     lower_begin               the lower half begins where the box does
--     slab_before               a state with a number below those of the upper half is one below the slab's, or one of the lower half
-- Assumes nothing.
use mathlib.Core.Path.{◌≡◌, refl}
use mathlib.Core.Bool.{true, false}
use mathlib.Core.Logic.{◌⊎◌, inl, inr, ⊎_elim}
use mathlib.Core.List.{List, [], ◌∷◌}
use Prim.Native.Nat.{ℕ, suc, ◌+◌, ◌<◌}
use lib.IntN.{ℤ, pos}
use lib.ListN.{get_or}
use lib.Signed.{lt_z, ◌≤ℤ◌, ◌<ℤ◌, ≤ℤ_refl}
use Rattle.integers.specs.Radix.{at}
use Rattle.integers.proofs.Laws.Parts.{ints, le_or_lt, ≤ℤ_antisym}
use Rattle.integers.proofs.Laws.Radix.{below_next}
use Rattle.states.specs.State.{Within}
use Rattle.states.specs.Ranges.{Ranges}
use Rattle.states.specs.Ranges.Ranges.{none as no_ranges, more as more_ranges}
use Rattle.states.specs.State.Within.{none as no_values, more as more_values}
use Rattle.states.specs.Number.{number_of}
use Rattle.states.proofs.Laws.Order.{Precedes, precedes_less, less_precedes, none_precedes}
use Rattle.states.proofs.Laws.Order.Precedes.{here, there}
use Rattle.boxes.specs.declared.Box.{Box}
use Rattle.boxes.specs.Box.{box, Inside, Part}
use Rattle.boxes.specs.Half.{wide_of, halfway_of, lower_of, upper_of}
use Rattle.boxes.proofs.Laws.Half.{part_inside, low_inside, half_between, behind_between, upper_part}

-- one value each up to the first wide variable, and behind that one the whole ranges
pub data Slab : List ℤ → List ℤ → List ℤ → List ℤ → Type 0 where
  none : Slab [] [] [] []
  part : {least most low high : ℤ} {leasts mosts : List ℤ} → low <ℤ high → Ranges leasts mosts
      → Slab (least ∷ leasts) (most ∷ mosts) (low ∷ leasts) (high ∷ mosts)
  point : {least most value : ℤ} {leasts mosts lows highs : List ℤ} → Slab leasts mosts lows highs
      → Slab (least ∷ leasts) (most ∷ mosts) (value ∷ lows) (value ∷ highs)

-- the first variable has any values of its range, those behind it all of theirs
slab_part : {least most low high : ℤ} {leasts mosts : List ℤ} → low ≤ℤ high → Ranges leasts mosts → Slab leasts mosts leasts mosts
    → Slab (least ∷ leasts) (most ∷ mosts) (low ∷ leasts) (high ∷ mosts)
slab_part {low = low} {high} p r s = ⊎_elim (λ k. let e : high ≡ low = ≤ℤ_antisym k p in rw e (point s)) (λ k. part k r) (le_or_lt high low)

pub slab_whole : {lows highs : List ℤ} → Ranges lows highs → Slab lows highs lows highs
slab_whole no_ranges = none
slab_whole (more_ranges p r) = slab_part p r (slab_whole r)

-- ---- the first wide variable

module _ (lows highs : List ℤ) where
  wide_here : {low high : ℤ} → low <ℤ high → wide_of (low ∷ lows) (high ∷ highs) ≡ 0
  unfolding wide_of
  wide_here {low} {high} l = let t : lt_z low high ≡ true = omega ints in rw t

  wide_there : (value : ℤ) → wide_of (value ∷ lows) (value ∷ highs) ≡ suc (wide_of lows highs)
  unfolding wide_of
  wide_there value = let t : lt_z value value ≡ false = omega ints in rw t

-- ---- the halves

-- at the first wide variable
abbrev pub lower_half : Box → Box
lower_half b = lower_of b (wide_of b.low b.high)

abbrev pub upper_half : Box → Box
upper_half b = upper_of b (wide_of b.low b.high)

pub slab_lower : {leasts mosts lows highs : List ℤ} → Slab leasts mosts lows highs
    → Slab leasts mosts (lower_half (box lows highs)).low (lower_half (box lows highs)).high
unfolding lower_of halfway_of
slab_lower none = none
slab_lower (part {leasts = leasts} {mosts} l r) = rw (wide_here leasts mosts l) (slab_part (half_between l).0 r (slab_whole r))
slab_lower (point {value = value} {lows = lows} {highs} s) = rw (wide_there lows highs value) (point (slab_lower s))

pub slab_upper : {leasts mosts lows highs : List ℤ} → Slab leasts mosts lows highs
    → Slab leasts mosts (upper_half (box lows highs)).low (upper_half (box lows highs)).high
unfolding upper_of halfway_of
slab_upper none = none
slab_upper (part {leasts = leasts} {mosts} l r) = rw (wide_here leasts mosts l) (slab_part (behind_between l).1 r (slab_whole r))
slab_upper (point {value = value} {lows = lows} {highs} s) = rw (wide_there lows highs value) (point (slab_upper s))

pub lower_begin : (b : Box) → (lower_half b).low ≡ b.low
unfolding lower_of
lower_begin b = refl

-- ---- what lies before the upper half

module _ {leasts mosts s : List ℤ} (w : Within leasts mosts s) where
  first_before : (low : ℤ) (k : ℕ) (x : ℤ) → Precedes (x ∷ s) (at low (k + 1) ∷ leasts)
      → Precedes (x ∷ s) (low ∷ leasts) ⊎ Within (low ∷ leasts) (at low k ∷ mosts) (x ∷ s)
  first_before low k x (here l) = ⊎_elim (λ m. inr (more_values m (below_next low x k l) w)) (λ m. inl (here m)) (le_or_lt low x)
  first_before low k x (there l) = absurd (none_precedes w l)

next_before : {value x : ℤ} {s t lows lows' highs' : List ℤ} → (Precedes s t → Precedes s lows ⊎ Within lows' highs' s) → Precedes (x ∷ s) (value ∷ t)
    → Precedes (x ∷ s) (value ∷ lows) ⊎ Within (value ∷ lows') (value ∷ highs') (x ∷ s)
next_before f (here l) = inl (here l)
next_before {value} f (there l) = ⊎_elim (λ k. inl (there k)) (λ w. inr (more_values (≤ℤ_refl value) (≤ℤ_refl value) w)) (f l)

before : {leasts mosts lows highs s : List ℤ} → Slab leasts mosts lows highs → Within leasts mosts s
    → Precedes s (upper_half (box lows highs)).low → Precedes s lows ⊎ Within (lower_half (box lows highs)).low (lower_half (box lows highs)).high s
unfolding lower_of upper_of halfway_of
before none no_values l = inl l
before (part {leasts = leasts} {mosts} k r) (more_values p q w) l =
    let e = wide_here leasts mosts k in rw e (first_before w _ _ _ (rw e at l))
before (point {value = value} {lows = lows} {highs} t) (more_values p q w) l =
    let e = wide_there lows highs value in rw e (next_before (before t w) (rw e at l))

module _ {ranges b : Box} (s : Slab ranges.low ranges.high b.low b.high) where
  pub slab_before : Part ranges b → get_or b.low (wide_of b.low b.high) (pos 0) <ℤ get_or b.high (wide_of b.low b.high) (pos 0)
      → {state : List ℤ} → Inside ranges state
      → number_of ranges.low ranges.high state < number_of ranges.low ranges.high (upper_half b).low
      → (number_of ranges.low ranges.high state < number_of ranges.low ranges.high b.low) ⊎ Inside (lower_half b) state
  slab_before n wide w l =
      let m = upper_part n _ wide in
      ⊎_elim (λ k. inl (precedes_less w (part_inside n (low_inside n)) k)) (λ i. inr i) (before s w (less_precedes w (part_inside m (low_inside m)) l))
