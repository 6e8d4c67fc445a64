-- The first variable with more than one value: those before it have one each.
-- Assumes nothing.
use mathlib.Core.Path.{◌≡◌, refl, ap}
use mathlib.Core.Bool.{Bool, true, false}
use mathlib.Core.List.{List, [], ◌∷◌}
use Prim.Native.Nat.{ℕ, zero, suc, ◌<◌}
use native.Mathlib.Omega.{arith}
use lib.IntN.{ℤ, pos}
use lib.ListN.{length, get_or}
use lib.Signed.{lt_z}
use Rattle.std.proofs.Common.{Option, None, Some}
use Rattle.std.specs.Option.{MatchOption, unwrap_or}
use Rattle.boxes.specs.Half.{wide_of}

-- variable i has more than one value, or one
abbrev pub wide_at : List ℤ → List ℤ → ℕ → Bool
wide_at lows highs i = lt_z (get_or lows i (pos 0)) (get_or highs i (pos 0))

none_wide : (lows highs : List ℤ) → length highs ≡ length lows → ((i : ℕ) → i < length lows → wide_at lows highs i ≡ false)
    → wide_of lows highs ≡ length lows
unfolding wide_of
none_wide [] highs e f = refl
none_wide (low ∷ lows) [] e f = absurd (omega arith)
none_wide (low ∷ lows) (high ∷ highs) e f = rw (f 0 (omega arith)) (ap suc (none_wide lows highs (omega arith) (λ i l. f (suc i) (omega arith))))

first_at : (k : ℕ) (lows highs : List ℤ) → length highs ≡ length lows → k < length lows → wide_at lows highs k ≡ true
    → ((i : ℕ) → i < k → wide_at lows highs i ≡ false) → wide_of lows highs ≡ k
unfolding wide_of
first_at k [] highs e l t f = absurd (omega arith)
first_at k (low ∷ lows) [] e l t f = absurd (omega arith)
first_at zero (low ∷ lows) (high ∷ highs) e l t f = rw t
first_at (suc k) (low ∷ lows) (high ∷ highs) e l t f =
    rw (f 0 (omega arith)) (ap suc (first_at k lows highs (omega arith) (omega arith) t (λ i m. f (suc i) (omega arith))))

pub first_is : (lows highs : List ℤ) (r : Option ℕ) → length lows ≡ 12 → length highs ≡ 12
    → MatchOption r ((i : ℕ) → i < 12 → wide_at lows highs i ≡ false)
    (λ k. (k < 12) × (wide_at lows highs k ≡ true) × ((i : ℕ) → i < k → wide_at lows highs i ≡ false))
    → wide_of lows highs ≡ unwrap_or r 12
first_is lows highs None e d m = rw (none_wide lows highs (cc) (λ i l. m i (omega arith))) e
first_is lows highs (Some k) e d m = first_at k lows highs (cc) (omega arith) m.1 m.2
