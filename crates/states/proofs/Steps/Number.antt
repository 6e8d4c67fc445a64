-- Counting, numbering and moving forward one variable at a time, from the last to the first: from variable i on all is done.
-- Assumes nothing.
use mathlib.Core.Path.{◌≡◌, refl, sym, ap, ◌∙◌}
use mathlib.Core.Bool.{Bool, true, false, cond, ◌&&◌, and-false}
use mathlib.Core.List.{List, [], ◌∷◌, ◌++◌, append-nil}
use Prim.Native.Nat.{ℕ, zero, suc, ◌+◌, ◌*◌, ◌-◌, ◌/◌, ◌%◌, ◌<◌, ◌≤◌}
use native.Mathlib.Nat.{add_comm, mul_comm, div-div-eq-div-mul, div-one, mod-lt, mod-eq_of_lt, le_refl, le_trans, lt_of_lt_of_le, add-mul, one-mul}
use native.Mathlib.Numerals.{sub-one}
use native.Mathlib.Omega.{arith}
use lib.Arith.{digits_div, digits_mod, mod-mul}
use lib.IntN.{ℤ, pos, ◌+ℤ◌}
use lib.ListN.{length, take, drop, get_or, set, drop_of_length-le}
use lib.Seq.{drop-cons, take_all, set-get_or}
use lib.Signed.{le_z, lt_z}
use Rattle.std.specs.Bool.{MatchBool}
use Rattle.integers.specs.Radix.{at, offset_of}
use Rattle.integers.proofs.Laws.Parts.{ints}
use Rattle.states.specs.State.{Within}
use Rattle.states.specs.Ranges.{Ranges, Idle}
use Rattle.states.specs.Ranges.Ranges.{none as no_ranges, more as more_ranges}
use Rattle.states.specs.State.Within.{none as no_values, more as more_values}
use Rattle.states.specs.Number.{size_of, count_of, state_of, number_of}
use Rattle.states.specs.Advance.{last_of, advance_of}
use Rattle.states.proofs.Laws.State.{within_ranges}
use Rattle.states.proofs.Laws.Number.{size_pos, count_pos, number_below}

-- ---- lists whose first part is still as it was

-- element j of such a list, and another put in its place
get_join : (j : ℕ) (s t : List ℤ) → j < length s → get_or (take (suc j) s ++ t) j (pos 0) ≡ get_or s j (pos 0)
get_join j [] t l = absurd (omega arith)
get_join zero (a ∷ s) t l = refl
get_join (suc j) (a ∷ s) t l = get_join j s t (omega arith)

set_join : (j : ℕ) (s t : List ℤ) (x : ℤ) → j < length s → set (take (suc j) s ++ t) j x ≡ take j s ++ x ∷ t
set_join j [] t x l = absurd (omega arith)
set_join zero (a ∷ s) t x l = refl
set_join (suc j) (a ∷ s) t x l = ap {B = List ℤ} (λ r. a ∷ r) (set_join j s t x (omega arith))

-- ---- the count

-- how many values variable j has, and how many states the variables from i on
abbrev pub size_at : List ℤ → List ℤ → ℕ → ℕ
size_at lows highs j = size_of (get_or lows j (pos 0)) (get_or highs j (pos 0))

abbrev pub count_from : List ℤ → List ℤ → ℕ → ℕ
count_from lows highs i = count_of (drop i lows) (drop i highs)

module _ (lows highs : List ℤ) where
  count_none : length lows ≡ 12 → count_from lows highs 12 ≡ 1
  unfolding count_of
  count_none e = rw (drop_of_length-le lows {i = 12} (omega arith))

  count_from_lem : (j : ℕ) → j < length lows → j < length highs → count_from lows highs j ≡ size_at lows highs j * count_from lows highs (suc j)
  unfolding count_of
  count_from_lem j l m = rw (drop-cons lows j (pos 0) l, drop-cons highs j (pos 0) m)

-- fewer variables have no more states
count_fewer : {lows highs : List ℤ} → Ranges lows highs → (i : ℕ) → count_from lows highs i ≤ count_of lows highs
unfolding count_of size_of
count_fewer r zero = le_refl _
count_fewer no_ranges (suc i) = omega arith
count_fewer (more_ranges {low} {high} {lows} {highs} p r) (suc i) =
    le_trans (count_fewer r i) (rw (add-mul (offset_of low high) 1 (count_of lows highs), one-mul) (omega arith))

-- the variables from i on are counted
pub record Counted (lows highs : List ℤ) (product i : ℕ) : Type 0 where
  pub long : length lows ≡ 12
  pub wide : length highs ≡ 12
  pub most : i ≤ 12
  pub done : product ≡ count_from lows highs i

module _ (lows highs : List ℤ) where
  pub counted_begin : length lows ≡ 12 → length highs ≡ 12 → Counted lows highs 1 12
  counted_begin e d = record { long = e; wide = d; most = omega arith; done = sym (count_none lows highs e) }

  pub counted_step : (product i : ℕ) → Counted lows highs product i → 0 < i → Counted lows highs (product * size_at lows highs (i - 1)) (i - 1)
  counted_step product zero c p = absurd (omega arith)
  counted_step product (suc j) c p =
      record {
        long = c.long;
        wide = c.wide;
        most = omega arith;
        done = rw (c.done, sub-one, count_from_lem lows highs j (omega arith) (omega arith)) (mul_comm _ _);
      }

  pub counted_most : Ranges lows highs → (product i : ℕ) → Counted lows highs product i → product ≤ count_of lows highs
  counted_most r product i c = rw c.done (count_fewer r i)

  pub counted_end : (product i : ℕ) → Counted lows highs product i → i ≤ 0 → product ≡ count_of lows highs
  counted_end product zero c p = c.done
  counted_end product (suc j) c p = absurd (omega arith)

-- ---- the state of a number

-- the variables from i on have their values, and `rest` is what they leave of the number
pub record Digits (lows highs : List ℤ) (number : ℕ) (state : List ℤ) (rest i : ℕ) : Type 0 where
  pub long : length lows ≡ 12
  pub wide : length highs ≡ 12
  pub most : i ≤ 12
  pub left : rest ≡ number / count_from lows highs i
  pub done : state ≡ take i lows ++ state_of (drop i lows) (drop i highs) (number % count_from lows highs i)

module _ (lows highs : List ℤ) (number : ℕ) where
  pub digits_begin : length lows ≡ 12 → length highs ≡ 12 → Digits lows highs number lows number 12
  unfolding state_of
  digits_begin e d =
      let n = count_none lows highs e in
      record {
        long = e;
        wide = d;
        most = omega arith;
        left = rw n (sym (div-one number));
        done = rw (take_all 12 lows (omega arith), drop_of_length-le lows {i = 12} (omega arith)) (sym (append-nil lows));
      }

  state_from : (j : ℕ) → j < length lows → j < length highs
      → state_of (drop j lows) (drop j highs) (number % count_from lows highs j)
      ≡ at (get_or lows j (pos 0)) (number / count_from lows highs (suc j) % size_at lows highs j)
      ∷ state_of (drop (suc j) lows) (drop (suc j) highs) (number % count_from lows highs (suc j))
  unfolding state_of
  state_from j l m =
      let p = count_pos (drop (suc j) lows) (drop (suc j) highs) in
      let d = number / count_from lows highs (suc j) % size_at lows highs j in
      rw (
        count_from_lem lows highs j l m,
        drop-cons lows j (pos 0) l,
        drop-cons highs j (pos 0) m,
        mod-mul number (size_pos (get_or lows j (pos 0)) (get_or highs j (pos 0))) p,
        digits_div d (mod-lt number p),
        digits_mod d (mod-lt number p),
      )

  rest_from : (j : ℕ) → j < length lows → j < length highs
      → number / count_from lows highs (suc j) / size_at lows highs j ≡ number / count_from lows highs j
  rest_from j l m = rw (count_from_lem lows highs j l m, div-div-eq-div-mul, mul_comm (count_from lows highs (suc j)) (size_at lows highs j))

  pub digits_step : (state : List ℤ) (rest i : ℕ) → Digits lows highs number state rest i → 0 < i
      → Digits lows highs number (set state (i - 1) (at (get_or lows (i - 1) (pos 0)) (rest % size_at lows highs (i - 1))))
      (rest / size_at lows highs (i - 1)) (i - 1)
  digits_step state rest zero d p = absurd (omega arith)
  digits_step state rest (suc j) d p =
      let l : j < length lows = omega arith in
      let m : j < length highs = omega arith in
      record {
        long = d.long;
        wide = d.wide;
        most = omega arith;
        left = rw (d.left, sub-one) (rest_from j l m);
        done = rw (d.done, d.left, sub-one, state_from j l m) (set_join j lows _ _ l);
      }

  pub digits_end : (state : List ℤ) (rest i : ℕ) → Digits lows highs number state rest i → i ≤ 0 → number < count_of lows highs
      → state ≡ state_of lows highs number
  digits_end state rest zero d p l = d.done ∙ rw (mod-eq_of_lt l)
  digits_end state rest (suc j) d p l = absurd (omega arith)

-- ---- the number of a state

abbrev pub number_from : List ℤ → List ℤ → List ℤ → ℕ → ℕ
number_from lows highs state i = number_of (drop i lows) (drop i highs) (drop i state)

-- the variables from i on are numbered, and counted
pub record Numbered (lows highs state : List ℤ) (number product i : ℕ) : Type 0 where
  pub counted : Counted lows highs product i
  pub deep : length state ≡ 12
  pub done : number ≡ number_from lows highs state i

within_from : {lows highs state : List ℤ} → Within lows highs state → (i : ℕ) → Within (drop i lows) (drop i highs) (drop i state)
within_from w zero = w
within_from no_values (suc i) = no_values
within_from (more_values p q w) (suc i) = within_from w i

module _ (lows highs state : List ℤ) where
  pub numbered_begin : length lows ≡ 12 → length highs ≡ 12 → length state ≡ 12 → Numbered lows highs state 0 1 12
  unfolding number_of
  numbered_begin e d c =
      record {
        counted = counted_begin lows highs e d;
        deep = c;
        done = rw (drop_of_length-le lows {i = 12} (omega arith));
      }

  number_from_lem : (j : ℕ) → j < length lows → j < length highs → j < length state
      → number_from lows highs state j
      ≡ offset_of (get_or lows j (pos 0)) (get_or state j (pos 0)) * count_from lows highs (suc j) + number_from lows highs state (suc j)
  unfolding number_of
  number_from_lem j l m k = rw (drop-cons lows j (pos 0) l, drop-cons highs j (pos 0) m, drop-cons state j (pos 0) k)

  pub numbered_step : (number product i : ℕ) → Numbered lows highs state number product i → 0 < i
      → Numbered lows highs state (number + offset_of (get_or lows (i - 1) (pos 0)) (get_or state (i - 1) (pos 0)) * product)
      (product * size_at lows highs (i - 1)) (i - 1)
  numbered_step number product zero n p = absurd (omega arith)
  numbered_step number product (suc j) n p =
      let c = n.counted in
      record {
        counted = counted_step lows highs product (suc j) c p;
        deep = n.deep;
        done = rw (n.done, c.done, sub-one, number_from_lem j (omega arith) (omega arith) (omega arith)) (add_comm _ _);
      }

  pub numbered_below : Within lows highs state → (number product i : ℕ) → Numbered lows highs state number product i → number < count_of lows highs
  numbered_below w number product i n = rw n.done (lt_of_lt_of_le (number_below (within_from w i)) (count_fewer (within_ranges w) i))

  pub numbered_end : (number product i : ℕ) → Numbered lows highs state number product i → i ≤ 0 → number ≡ number_of lows highs state
  numbered_end number product zero n p = n.done
  numbered_end number product (suc j) n p = absurd (omega arith)

-- ---- the move forward

-- the variables from i on were at their high ends and start anew
pub record Carried (lows highs state next : List ℤ) (i : ℕ) : Type 0 where
  pub long : length lows ≡ 12
  pub wide : length highs ≡ 12
  pub deep : length state ≡ 12
  pub most : i ≤ 12
  pub done : next ≡ take i state ++ advance_of (drop i lows) (drop i highs) (drop i state)
  pub full : last_of (drop i highs) (drop i state) ≡ true

-- where one of the variables from j on is below its high end, those before j stay as they are
last_front : (j : ℕ) (highs state : List ℤ) → j < length highs → j < length state → last_of (drop j highs) (drop j state) ≡ false → last_of highs state ≡ false
unfolding last_of
last_front zero highs state l m e = e
last_front (suc j) [] state l m e = absurd (omega arith)
last_front (suc j) (high ∷ highs) [] l m e = absurd (omega arith)
last_front (suc j) (high ∷ highs) (value ∷ state) l m e = rw (last_front j highs state (omega arith) (omega arith) e, and-false)

advance_front : (j : ℕ) (lows highs state : List ℤ) → j < length lows → j < length highs → j < length state → last_of (drop j highs) (drop j state) ≡ false
    → advance_of lows highs state ≡ take j state ++ advance_of (drop j lows) (drop j highs) (drop j state)
unfolding advance_of
advance_front zero lows highs state k l m e = refl
advance_front (suc j) [] highs state k l m e = absurd (omega arith)
advance_front (suc j) (low ∷ lows) [] state k l m e = absurd (omega arith)
advance_front (suc j) (low ∷ lows) (high ∷ highs) [] k l m e = absurd (omega arith)
advance_front (suc j) (low ∷ lows) (high ∷ highs) (value ∷ state) k l m e =
    rw (last_front j highs state (omega arith) (omega arith) e, advance_front j lows highs state (omega arith) (omega arith) (omega arith) e)

module _ (lows highs state : List ℤ) where
  carried_none : length lows ≡ 12 → length highs ≡ 12 → length state ≡ 12 → Carried lows highs state state 12
  unfolding advance_of last_of
  carried_none e d c =
      record {
        long = e;
        wide = d;
        deep = c;
        most = omega arith;
        done = rw (take_all 12 state (omega arith), drop_of_length-le lows {i = 12} (omega arith)) (sym (append-nil state));
        full = rw (drop_of_length-le highs {i = 12} (omega arith));
      }

  pub carried_end : (next : List ℤ) (i : ℕ) → Carried lows highs state next i → i ≤ 0 → next ≡ advance_of lows highs state
  carried_end next zero c p = c.done
  carried_end next (suc j) c p = absurd (omega arith)

  -- variable j moves where all behind it are at their high ends
  advance_from : (j : ℕ) → j < length lows → j < length highs → j < length state → last_of (drop (suc j) highs) (drop (suc j) state) ≡ true
      → advance_of (drop j lows) (drop j highs) (drop j state)
      ≡ cond (lt_z (get_or state j (pos 0)) (get_or highs j (pos 0))) (get_or state j (pos 0) +ℤ pos 1) (get_or lows j (pos 0))
      ∷ advance_of (drop (suc j) lows) (drop (suc j) highs) (drop (suc j) state)
  unfolding advance_of
  advance_from j k l m e = rw (drop-cons lows j (pos 0) k, drop-cons highs j (pos 0) l, drop-cons state j (pos 0) m, e)

  last_from_lem : (j : ℕ) → j < length highs → j < length state
      → last_of (drop j highs) (drop j state) ≡ (le_z (get_or highs j (pos 0)) (get_or state j (pos 0)) && last_of (drop (suc j) highs) (drop (suc j) state))
  unfolding last_of
  last_from_lem j l m = rw (drop-cons highs j (pos 0) l, drop-cons state j (pos 0) m)

  -- variable i - 1 stands as it did
  pub carried_at : (next : List ℤ) (i : ℕ) → Carried lows highs state next i → 0 < i → get_or next (i - 1) (pos 0) ≡ get_or state (i - 1) (pos 0)
  carried_at next zero c p = absurd (omega arith)
  carried_at next (suc j) c p = rw (c.done, sub-one) (get_join j state _ (omega arith))

  pub carried_more : (next : List ℤ) (i : ℕ) → Carried lows highs state next i → 0 < i
      → lt_z (get_or state (i - 1) (pos 0)) (get_or highs (i - 1) (pos 0)) ≡ false
      → Carried lows highs state (set next (i - 1) (get_or lows (i - 1) (pos 0))) (i - 1)
  carried_more next zero c p e = absurd (omega arith)
  carried_more next (suc j) c p e =
      let k : j < length lows = omega arith in
      let l : j < length highs = omega arith in
      let m : j < length state = omega arith in
      let f : lt_z (get_or state j (pos 0)) (get_or highs j (pos 0)) ≡ false = rw sub-one at e in
      let g : le_z (get_or highs j (pos 0)) (get_or state j (pos 0)) ≡ true = omega ints in
      record {
        long = c.long;
        wide = c.wide;
        deep = c.deep;
        most = omega arith;
        done = rw (c.done, sub-one, advance_from j k l m c.full, f) (set_join j state _ _ m);
        full = rw (sub-one, last_from_lem j l m, g) c.full;
      }

  pub carried_done : (next : List ℤ) (i : ℕ) → Carried lows highs state next i → 0 < i
      → lt_z (get_or state (i - 1) (pos 0)) (get_or highs (i - 1) (pos 0)) ≡ true
      → set next (i - 1) (get_or state (i - 1) (pos 0) +ℤ pos 1) ≡ advance_of lows highs state
  carried_done next zero c p e = absurd (omega arith)
  carried_done next (suc j) c p e =
      let k : j < length lows = omega arith in
      let l : j < length highs = omega arith in
      let m : j < length state = omega arith in
      let f : lt_z (get_or state j (pos 0)) (get_or highs j (pos 0)) ≡ true = rw sub-one at e in
      let g : le_z (get_or highs j (pos 0)) (get_or state j (pos 0)) ≡ false = omega ints in
      rw (c.done, sub-one, advance_front j lows highs state k l m (last_from_lem j l m ∙ rw g), advance_from j k l m c.full, f)
      (set_join j state _ _ m)

  -- an idle variable is at its high end, and anew it is what it was
  pub carried_begin : (vars : ℕ) → vars ≤ 12 → length lows ≡ 12 → length highs ≡ 12 → length state ≡ 12 → Idle vars lows highs state
      → Carried lows highs state state vars
  unfolding Idle
  carried_begin vars l e d c f = from (12 - vars) vars (omega arith) (omega arith)
    where
      from : (n i : ℕ) → n + i ≡ 12 → vars ≤ i → Carried lows highs state state i
      from zero i s m = let t : i ≡ 12 = omega arith in rw t (carried_none e d c)
      from (suc n) i s m =
          let a = f i m (omega arith) in
          let b = from n (suc i) (omega arith) (omega arith) in
          rw (sub-one, sym a.0, set-get_or) at (carried_more state (suc i) b (omega arith) (rw (sub-one, a.1) (omega ints)))

-- ---- the last state, index by index

last_met : (highs state : List ℤ) → ((i : ℕ) → i < length highs → le_z (get_or highs i (pos 0)) (get_or state i (pos 0)) ≡ true) → last_of highs state ≡ true
unfolding last_of
last_met [] state f = refl
last_met (high ∷ highs) [] f = refl
last_met (high ∷ highs) (value ∷ state) f = rw (f 0 (omega arith), last_met highs state (λ i l. f (suc i) (omega arith)))

last_missed : (i : ℕ) (highs state : List ℤ) → i < length highs → i < length state → le_z (get_or highs i (pos 0)) (get_or state i (pos 0)) ≡ false
    → last_of highs state ≡ false
unfolding last_of
last_missed i [] state l m e = absurd (omega arith)
last_missed i (high ∷ highs) [] l m e = absurd (omega arith)
last_missed zero (high ∷ highs) (value ∷ state) l m e = rw e
last_missed (suc i) (high ∷ highs) (value ∷ state) l m e = rw (last_missed i highs state (omega arith) (omega arith) e, and-false)

pub last_is : (highs state : List ℤ) (b : Bool) → length highs ≡ 12 → length state ≡ 12
    → MatchBool b ((i : ℕ) → i < 12 → le_z (get_or highs i (pos 0)) (get_or state i (pos 0)) ≡ true)
    ((i : ℕ) × (i < 12) × (le_z (get_or highs i (pos 0)) (get_or state i (pos 0)) ≡ false)) → b ≡ last_of highs state
last_is highs state true d c m = sym (last_met highs state (λ i l. m i (omega arith)))
last_is highs state false d c m = sym (last_missed m.0 highs state (omega arith) (omega arith) m.2)
