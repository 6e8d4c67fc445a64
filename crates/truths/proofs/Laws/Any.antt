-- Laws of tests that one of several numbers in a row passes.
--     any_none, any_hit, any_next     one step, as a loop takes it
--     any_first, any_last             one number more, before the others and behind them
--     any_at, any_below               one number that passes is enough; from 0 on
--     any_some, any_false             where one passes, there is such a one; where none does, each fails
--     none_passes                     where each fails, none passes
--     any_same                        tests that agree at each number agree
-- Assumes nothing.
use mathlib.Core.Path.{◌≡◌, refl, sym, ap, ap₂, ◌∙◌}
use mathlib.Core.Bool.{Bool, true, false, ◌||◌, false≢true, or-false, or_assoc}
use Prim.Native.Nat.{ℕ, zero, suc, ◌+◌, ◌-◌, ◌<◌, ◌≤◌}
use native.Mathlib.Numerals.{sub-one}
use native.Mathlib.Omega.{arith}
use Rattle.truths.specs.Search.{any}
use Rattle.truths.proofs.Laws.Truth.{or_second, or_neither}

-- one of the n numbers from `at` on that passes a test
pub record Some (test : ℕ → Bool) (n at : ℕ) : Type 0 where
  pub which : ℕ
  pub below : which < n
  pub passes : test (at + which) ≡ true

module _ (test : ℕ → Bool) where
  -- ---- one step
  pub any_none : (n at : ℕ) → n ≤ 0 → any test n at ≡ false
  unfolding any
  any_none zero at h = refl
  any_none (suc n) at h = absurd (omega arith)

  pub any_hit : (n at : ℕ) → 0 < n → test at ≡ true → any test n at ≡ true
  unfolding any
  any_hit zero at h t = absurd (omega arith)
  any_hit (suc n) at h t = rw t

  pub any_next : (n at : ℕ) → 0 < n → test at ≡ false → any test n at ≡ any test (n - 1) (at + 1)
  unfolding any
  any_next zero at h t = absurd (omega arith)
  any_next (suc n) at h t = rw (t, sub-one)

  pub any_first : (n at : ℕ) → any test (suc n) at ≡ (test at || any test n (at + 1))
  unfolding any
  any_first n at = refl

  pub any_last : (n at : ℕ) → any test (suc n) at ≡ (any test n at || test (at + n))
  unfolding any
  any_last zero at = let z : at + 0 ≡ at = omega arith in rw z (or-false (test at))
  any_last (suc n) at =
      let z : at + 1 + n ≡ at + suc n = omega arith in
      ap (λ (b : Bool). test at || b) (rw z at (any_last n (at + 1))) ∙ sym (or_assoc (test at) (any test n (at + 1)) (test (at + suc n)))

  -- ---- each number
  pub any_at : (n at i : ℕ) → i < n → test (at + i) ≡ true → any test n at ≡ true
  unfolding any
  any_at zero at i l t = absurd (omega arith)
  any_at (suc n) at zero l t = let z : at + 0 ≡ at = omega arith in rw (rw z at t)
  any_at (suc n) at (suc i) l t =
      let z : at + suc i ≡ at + 1 + i = omega arith in
      or_second (test at) (any test n (at + 1)) (any_at n (at + 1) i (omega arith) (rw z at t))

  pub any_below : (n i : ℕ) → i < n → test i ≡ true → any test n 0 ≡ true
  any_below n i l t = any_at n 0 i l (let z : 0 + i ≡ i = omega arith in rw z t)

  pub any_false : (n at : ℕ) → any test n at ≡ false → (i : ℕ) → i < n → test (at + i) ≡ false
  unfolding any
  any_false zero at e i l = absurd (omega arith)
  any_false (suc n) at e zero l = let z : at + 0 ≡ at = omega arith in rw z (or_neither (test at) (any test n (at + 1)) e).0
  any_false (suc n) at e (suc i) l =
      let z : at + suc i ≡ at + 1 + i = omega arith in
      rw z (any_false n (at + 1) (or_neither (test at) (any test n (at + 1)) e).1 i (omega arith))

  pub none_passes : (n at : ℕ) → ((k : ℕ) → at ≤ k → k < at + n → test k ≡ false) → any test n at ≡ false
  unfolding any
  none_passes zero at h = refl
  none_passes (suc n) at h =
      rw (h at (omega arith) (omega arith)) (none_passes n (at + 1) (λ k p q. h k (omega arith) (omega arith)))

  pub any_some : (n at : ℕ) → any test n at ≡ true → Some test n at
  unfolding any
  any_some zero at e = absurd (false≢true e)
  any_some (suc n) at e = here_or_later (test at) refl e (any_some n (at + 1))
    where
      here_or_later : (b : Bool) → test at ≡ b → (b || any test n (at + 1)) ≡ true → (any test n (at + 1) ≡ true → Some test n (at + 1))
          → Some test (suc n) at
      here_or_later true t q later = record { which = 0; below = omega arith; passes = let z : at + 0 ≡ at = omega arith in rw z t }
      here_or_later false t q later =
          let s = later q in
          let z : at + (s.which + 1) ≡ at + 1 + s.which = omega arith in
          record { which = s.which + 1; below = omega arith; passes = rw z s.passes }

pub any_same : (f g : ℕ → Bool) (n at : ℕ) → ((i : ℕ) → i < n → f (at + i) ≡ g (at + i)) → any f n at ≡ any g n at
unfolding any
any_same f g zero at e = refl
any_same f g (suc n) at e =
    ap₂ ◌||◌ (let z : at + 0 ≡ at = omega arith in rw z at (e 0 (omega arith)))
    (any_same f g n (at + 1) (λ i l. let z : at + 1 + i ≡ at + suc i = omega arith in rw z (e (suc i) (omega arith))))
