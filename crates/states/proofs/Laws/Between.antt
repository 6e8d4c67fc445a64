-- Laws of the states between two ends.
--     between_within, within_between     those listed are those between the ends, and no others
--     between_length                     as many as the count
--     between_rises, between_ascends     they are listed by their numbers, also those in wider ranges, so that none is there twice (C5.6)
--     Trying, trying_first, trying_fails, trying_passes, trying_next, trying_less     a test of each, one after the other by the move forward
-- Assumes nothing.
use mathlib.Core.Path.{◌≡◌, refl, sym, ◌∙◌}
use mathlib.Core.Bool.{Bool, true, false, ◌&&◌}
use mathlib.Core.List.{List, [], ◌∷◌}
use Prim.Native.Nat.{ℕ, zero, suc, ◌+◌, ◌-◌, ◌<◌}
use native.Mathlib.Nat.{zero-add}
use native.Mathlib.Omega.{arith}
use lib.IntN.{ℤ}
use lib.ListN.{length}
use Rattle.truths.specs.Table.{tabulate}
use Rattle.truths.specs.Listed.{Member, all_pass}
use Rattle.truths.proofs.Laws.Table.{tabulate_none, tabulate_more, length_tabulate}
use Rattle.truths.proofs.Laws.Listed.{all_pass_none, all_pass_more, tabulate_member, tabulated}
use Rattle.states.specs.State.{Within}
use Rattle.states.specs.Ranges.{Ranges}
use Rattle.states.specs.Number.{count_of, state_of, number_of, states_between}
use Rattle.states.specs.Advance.{last_of, advance_of}
use Rattle.states.proofs.Laws.Number.{number_below, state_of_number, number_of_state, state_within, first_number}
use Rattle.states.proofs.Laws.Number.{advance_within, last_number, next_number}
use Rattle.states.proofs.Laws.Order.{precedes_less, less_precedes}

-- ---- which they are
module _ {lows highs : List ℤ} where
  pub between_within : Ranges lows highs → {state : List ℤ} → Member state (states_between lows highs) → Within lows highs state
  unfolding states_between
  between_within r m =
      let t = tabulated (state_of lows highs) (count_of lows highs) 0 m in
      rw (t.2, zero-add t.0) (state_within r t.0 t.1)

  pub within_between : {state : List ℤ} → Within lows highs state → Member state (states_between lows highs)
  unfolding states_between
  within_between {state} w =
      let m = tabulate_member (state_of lows highs) (count_of lows highs) 0 (number_of lows highs state) (number_below w) in
      rw (zero-add (number_of lows highs state), state_of_number w) at m

  -- those at i and j in the list, i before j
  pub between_rises : {leasts mosts : List ℤ} → Ranges lows highs → ((state : List ℤ) → Within lows highs state → Within leasts mosts state)
      → (i j : ℕ) → i < j → j < count_of lows highs → number_of leasts mosts (state_of lows highs i) < number_of leasts mosts (state_of lows highs j)
  between_rises r part i j l m =
      let v = state_within r i (omega arith) in
      let w = state_within r j m in
      precedes_less (part _ v) (part _ w)
      (less_precedes v w (rw (number_of_state r i (omega arith), number_of_state r j m) l))

pub between_length : (lows highs : List ℤ) → length (states_between lows highs) ≡ count_of lows highs
unfolding states_between
between_length lows highs = length_tabulate (state_of lows highs) (count_of lows highs) 0

-- numbers that rise from each to all behind it
abbrev pub Ascending : (List ℤ → ℕ) → List (List ℤ) → Type 0
Ascending number [] = Unit {0}
Ascending number (s ∷ rest) = ((t : List ℤ) → Member t rest → number s < number t) × Ascending number rest

tabulate_ascends : (number : List ℤ → ℕ) (f : ℕ → List ℤ) (n at : ℕ) → ((i j : ℕ) → i < j → j < at + n → number (f i) < number (f j))
    → Ascending number (tabulate f n at)
tabulate_ascends number f zero at h = rw (tabulate_none f at) tt
tabulate_ascends number f (suc n) at h =
    rw (tabulate_more f n at) (
      λ t m. let r = tabulated f n (at + 1) m in rw r.2 (h at (at + 1 + r.0) (omega arith) (omega (arith, r.1))),
      tabulate_ascends number f n (at + 1) (λ i j l m. h i j l (omega arith)),
    )

pub between_ascends : {leasts mosts lows highs : List ℤ} → Ranges lows highs → ((state : List ℤ) → Within lows highs state → Within leasts mosts state)
    → Ascending (number_of leasts mosts) (states_between lows highs)
unfolding states_between
between_ascends {leasts} {mosts} {lows} {highs} r part =
    tabulate_ascends (number_of leasts mosts) (state_of lows highs) (count_of lows highs) 0 (λ i j l m. between_rises r part i j l (omega arith))

-- ---- a test of each
module _ (test : List ℤ → Bool) (lows highs : List ℤ) where
  -- those from number n on
  abbrev from : ℕ → List (List ℤ)
  from n = tabulate (state_of lows highs) (count_of lows highs - n) n

  -- those before `next` pass the test, so that the others decide
  pub record Trying (next : List ℤ) : Type 0 where
    pub within : Within lows highs next
    pub rest : all_pass test (from (number_of lows highs next)) ≡ all_pass test (states_between lows highs)

  pub trying_first : Ranges lows highs → Within lows highs lows → Trying lows
  unfolding states_between
  trying_first r w = let z : count_of lows highs - 0 ≡ count_of lows highs = omega arith in record { within = w; rest = rw (first_number r, z) refl }

  module _ {next : List ℤ} (k : Trying next) where
    abbrev number : ℕ
    number = number_of lows highs next

    opened : all_pass test (from number) ≡ (test next && all_pass test (from (number + 1)))
    opened =
        let z : count_of lows highs - number ≡ suc (count_of lows highs - (number + 1)) = omega (arith, number_below k.within) in
        rw (z, tabulate_more, all_pass_more, state_of_number k.within) refl

    pub trying_fails : test next ≡ false → all_pass test (states_between lows highs) ≡ false
    trying_fails e = sym k.rest ∙ opened ∙ rw e

    pub trying_passes : test next ≡ true → last_of highs next ≡ true → all_pass test (states_between lows highs) ≡ true
    trying_passes e l =
        let z : count_of lows highs - (number + 1) ≡ 0 = omega (arith, (last_number k.within l).0) in
        sym k.rest ∙ opened ∙ rw (e, z, tabulate_none, all_pass_none)

    module _ (l : last_of highs next ≡ false) where
      pub trying_next : test next ≡ true → Trying (advance_of lows highs next)
      trying_next e =
          record { within = advance_within k.within; rest = rw (next_number k.within l) (sym (rw e at opened) ∙ k.rest) }

      pub trying_less : count_of lows highs - number_of lows highs (advance_of lows highs next) < count_of lows highs - number
      trying_less = omega (arith, next_number k.within l, number_below k.within)
