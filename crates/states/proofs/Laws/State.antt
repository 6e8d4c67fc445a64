-- Laws of ranges and states.
--     ranges_at, at_ranges                  no range is empty: index by index
--     ranges_set, ranges_same, ranges_low   one more range, those that hold one state alone, and the state of the low ends
--     within_ends                           what lies between two states of the ranges is a state
--     within_at, at_within, within_length   a state lies within its ranges: index by index
--     within_ranges                         where there is a state, no range is empty
--     within_set                            a variable may take any value of its range
--     at_idle                               what a state that is idle beyond some variables is, index by index
-- Assumes nothing.
use mathlib.Core.Path.{◌≡◌, refl, ap}
use mathlib.Core.List.{List, [], ◌∷◌}
use Prim.Native.Nat.{ℕ, zero, suc, ◌<◌, ◌≤◌}
use native.Mathlib.Omega.{arith}
use lib.IntN.{ℤ, pos}
use lib.ListN.{length, get_or, set}
use lib.Signed.{◌≤ℤ◌, ≤ℤ_refl}
use Rattle.integers.proofs.Laws.Parts.{≤ℤ_trans}
use Rattle.states.specs.State.{Within}
use Rattle.states.specs.Ranges.{Ranges, Idle}
use Rattle.states.specs.Ranges.Ranges.{none as no_ranges, more as more_ranges}
use Rattle.states.specs.State.Within.{none as no_values, more as more_values}

-- ---- ranges

pub ranges_at : {lows highs : List ℤ} → Ranges lows highs → (i : ℕ) → get_or lows i (pos 0) ≤ℤ get_or highs i (pos 0)
ranges_at no_ranges i = ≤ℤ_refl (pos 0)
ranges_at (more_ranges p r) zero = p
ranges_at (more_ranges p r) (suc i) = ranges_at r i

pub at_ranges : (lows highs : List ℤ) → length highs ≡ length lows → ((i : ℕ) → i < length lows → get_or lows i (pos 0) ≤ℤ get_or highs i (pos 0))
    → Ranges lows highs
at_ranges [] [] e f = no_ranges
at_ranges [] (high ∷ highs) e f = absurd (omega arith)
at_ranges (low ∷ lows) [] e f = absurd (omega arith)
at_ranges (low ∷ lows) (high ∷ highs) e f = more_ranges (f 0 (omega arith)) (at_ranges lows highs (omega arith) (λ i l. f (suc i) (omega arith)))

pub ranges_set : {lows highs : List ℤ} {low high : ℤ} → Ranges lows highs → (i : ℕ) → low ≤ℤ high → Ranges (set lows i low) (set highs i high)
ranges_set no_ranges i l = no_ranges
ranges_set (more_ranges p r) zero l = more_ranges l r
ranges_set (more_ranges p r) (suc i) l = more_ranges p (ranges_set r i l)

pub ranges_same : {lows highs state : List ℤ} → Within lows highs state → Ranges state state
ranges_same no_values = no_ranges
ranges_same (more_values p q w) = more_ranges (≤ℤ_refl _) (ranges_same w)

pub ranges_low : {lows highs : List ℤ} → Ranges lows highs → Within lows highs lows
ranges_low no_ranges = no_values
ranges_low (more_ranges p r) = more_values (≤ℤ_refl _) p (ranges_low r)

-- ---- states

pub within_ends : {leasts mosts lows highs state : List ℤ} → Within leasts mosts lows → Within leasts mosts highs → Within lows highs state
    → Within leasts mosts state
within_ends no_values no_values no_values = no_values
within_ends (more_values p q v) (more_values a b w) (more_values l h s) = more_values (≤ℤ_trans p l) (≤ℤ_trans h b) (within_ends v w s)

pub within_at : {lows highs state : List ℤ} → Within lows highs state
    → (i : ℕ) → (get_or lows i (pos 0) ≤ℤ get_or state i (pos 0)) × (get_or state i (pos 0) ≤ℤ get_or highs i (pos 0))
within_at no_values i = (≤ℤ_refl (pos 0), ≤ℤ_refl (pos 0))
within_at (more_values p q w) zero = (p, q)
within_at (more_values p q w) (suc i) = within_at w i

pub within_length : {lows highs state : List ℤ} → Within lows highs state → (length state ≡ length lows) × (length highs ≡ length lows)
within_length no_values = (refl, refl)
within_length (more_values p q w) = let e = within_length w in (ap suc e.0, ap suc e.1)

pub within_ranges : {lows highs state : List ℤ} → Within lows highs state → Ranges lows highs
within_ranges no_values = no_ranges
within_ranges (more_values p q w) = more_ranges (≤ℤ_trans p q) (within_ranges w)

-- a value between its ends is the high end of one range and the low end of another
between : {lows highs state : List ℤ} → Ranges lows state → Ranges state highs → Within lows highs state
between no_ranges no_ranges = no_values
between (more_ranges p r) (more_ranges q s) = more_values p q (between r s)

pub at_within : {n : ℕ} (lows highs state : List ℤ) → length lows ≡ n → length highs ≡ n → length state ≡ n
    → ((i : ℕ) → i < n → (get_or lows i (pos 0) ≤ℤ get_or state i (pos 0)) × (get_or state i (pos 0) ≤ℤ get_or highs i (pos 0)))
    → Within lows highs state
at_within lows highs state e d c f =
    between (at_ranges lows state (cc) (λ i l. (f i (omega arith)).0)) (at_ranges state highs (cc) (λ i l. (f i (omega arith)).1))

pub within_set : {lows highs state : List ℤ} {x : ℤ} → Within lows highs state
    → (i : ℕ) → get_or lows i (pos 0) ≤ℤ x → x ≤ℤ get_or highs i (pos 0) → Within lows highs (set state i x)
within_set no_values i l m = no_values
within_set (more_values p q w) zero l m = more_values l m w
within_set (more_values p q w) (suc i) l m = more_values p q (within_set w i l m)

pub at_idle : (vars : ℕ) (lows highs state : List ℤ)
    → ((i : ℕ) → vars ≤ i → i < 12 → (get_or state i (pos 0) ≡ get_or lows i (pos 0)) × (get_or highs i (pos 0) ≡ get_or state i (pos 0)))
    → Idle vars lows highs state
unfolding Idle
at_idle vars lows highs state f = f
