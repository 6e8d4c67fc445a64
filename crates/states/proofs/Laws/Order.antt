-- Laws of the order of states: by the first variable in which they differ, as by their numbers.
--     precedes_less, less_precedes    a state precedes another exactly where its number is lower (C4.4)
--     none_precedes, nothing_before   none precedes the low ends, and no number is below theirs
-- Assumes nothing.
use mathlib.Core.Path.{◌≡◌}
use mathlib.Core.Logic.{⊎_elim}
use mathlib.Core.List.{List, ◌∷◌}
use Prim.Native.Nat.{ℕ, ◌<◌}
use native.Mathlib.Omega.{arith}
use lib.Arith.{digits_lt}
use lib.IntN.{ℤ}
use lib.Signed.{◌<ℤ◌}
use Rattle.integers.proofs.Laws.Parts.{ints, le_or_lt, ≤ℤ_antisym}
use Rattle.integers.proofs.Laws.Radix.{offset_less}
use Rattle.states.specs.State.{Within}
use Rattle.states.specs.Ranges.{Ranges}
use Rattle.states.specs.State.Within.{none as no_values, more as more_values}
use Rattle.states.specs.Number.{number_of}
use Rattle.states.proofs.Laws.Number.{number_below, first_number}

-- the first value that differs is lower
pub data Precedes : List ℤ → List ℤ → Type 0 where
  here : {x y : ℤ} {s t : List ℤ} → x <ℤ y → Precedes (x ∷ s) (y ∷ t)
  there : {x : ℤ} {s t : List ℤ} → Precedes s t → Precedes (x ∷ s) (x ∷ t)

pub precedes_less : {lows highs s t : List ℤ} → Within lows highs s → Within lows highs t → Precedes s t → number_of lows highs s < number_of lows highs t
unfolding number_of
precedes_less no_values _ l = elim l [ ]
precedes_less (more_values {low} {value = x} p q v) (more_values {value = y} a b w) (here l) =
    omega (arith, digits_lt (offset_less low x y p l) (number_below v))
precedes_less (more_values p q v) (more_values a b w) (there l) = omega (arith, precedes_less v w l)

pub less_precedes : {lows highs s t : List ℤ} → Within lows highs s → Within lows highs t → number_of lows highs s < number_of lows highs t → Precedes s t
unfolding number_of
less_precedes no_values no_values l = absurd (omega arith)
less_precedes (more_values {low} {value = x} p q v) (more_values {value = y} a b w) l =
    ⊎_elim
    (λ k. ⊎_elim
    (λ j.
    let e : x ≡ y = ≤ℤ_antisym j k in
    rw e (there (less_precedes v w (omega (arith, rw e at l)))))
    (λ j. absurd (omega (arith, digits_lt (offset_less low y x a j) (number_below w)))) (le_or_lt x y))
    (λ k. here k) (le_or_lt y x)

pub none_precedes : {lows highs s : List ℤ} → Within lows highs s → Precedes s lows → ⊥
none_precedes no_values l = elim l [ ]
none_precedes (more_values p q w) (here l) = omega ints
none_precedes (more_values p q w) (there l) = none_precedes w l

pub nothing_before : {lows highs : List ℤ} → Ranges lows highs → (n : ℕ) → n < number_of lows highs lows → ⊥
nothing_before r n l = omega (arith, first_number r)
