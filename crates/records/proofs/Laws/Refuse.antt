-- Laws of tests of numbers in a row, the first that fails refused.
--     refuse_none, refuse_fails, refuse_next     one step, as a loop takes it
--     refuse_all                                 where none is refused, each passes
--     refused_first                              one that is refused is one of them
-- Assumes nothing.
use mathlib.Core.Path.{◌≡◌, refl}
use mathlib.Core.Bool.{Bool, true, false, cond}
use Prim.Native.Nat.{ℕ, zero, suc, ◌+◌, ◌-◌, ◌<◌, ◌≤◌}
use native.Mathlib.Numerals.{sub-one}
use native.Mathlib.Omega.{arith}
use Rattle.std.specs.declared.result.Result.TheVariants.{Ok, Err}
use Rattle.shapes.specs.declared.Refusal.{Refusal}
use Rattle.records.specs.Walk.{refuse_first}

module _ (test : ℕ → Bool) (refused : ℕ → Refusal) where
  pub refuse_none : (left at : ℕ) → left ≤ 0 → refuse_first refused test left at ≡ Ok at
  unfolding refuse_first
  refuse_none zero at h = refl
  refuse_none (suc n) at h = absurd (omega arith)

  pub refuse_fails : (left at : ℕ) → 0 < left → test at ≡ false → refuse_first refused test left at ≡ Err (refused at)
  unfolding refuse_first
  refuse_fails zero at h t = absurd (omega arith)
  refuse_fails (suc n) at h t = rw t

  pub refuse_next : (left at : ℕ) → 0 < left → test at ≡ true → refuse_first refused test left at ≡ refuse_first refused test (left - 1) (at + 1)
  unfolding refuse_first
  refuse_next zero at h t = absurd (omega arith)
  refuse_next (suc n) at h t = rw (t, sub-one)

pub refuse_all : (refused : ℕ → Refusal) (test : ℕ → Bool) (end left at : ℕ) → refuse_first refused test left at ≡ Ok end
    → (i : ℕ) → i < left → test (at + i) ≡ true
unfolding refuse_first
refuse_all refused test end zero at e i l = absurd (omega arith)
refuse_all refused test end (suc left) at e i l = passes (test at) refl e i l (refuse_all refused test end left (at + 1))
  where
    passes : (b : Bool) → test at ≡ b → cond b (refuse_first refused test left (at + 1)) (Err (refused at)) ≡ Ok end
        → (i : ℕ) → i < suc left
        → (refuse_first refused test left (at + 1) ≡ Ok end → (j : ℕ) → j < left → test (at + 1 + j) ≡ true)
        → test (at + i) ≡ true
    passes true t q zero l later = let z : at + 0 ≡ at = omega arith in rw z t
    passes true t q (suc j) l later = let z : at + suc j ≡ at + 1 + j = omega arith in rw z (later q j (omega arith))
    passes false t q i l later = let z : ◌≡◌ {A = ℕ} 0 1 = cc in absurd (omega arith)

pub refused_first : (refused : ℕ → Refusal) (test : ℕ → Bool) (r : Refusal) (left at : ℕ) → refuse_first refused test left at ≡ Err r
    → (i : ℕ) × (r ≡ refused i) × (i < at + left)
unfolding refuse_first
refused_first refused test r zero at e = let z : ◌≡◌ {A = ℕ} 0 1 = cc in absurd (omega arith)
refused_first refused test r (suc left) at e = by_first (test at) e (refused_first refused test r left (at + 1))
  where
    by_first : (b : Bool) → cond b (refuse_first refused test left (at + 1)) (Err (refused at)) ≡ Err r
        → (refuse_first refused test left (at + 1) ≡ Err r → (i : ℕ) × (r ≡ refused i) × (i < at + 1 + left))
        → (i : ℕ) × (r ≡ refused i) × (i < at + suc left)
    by_first true q later = let f = later q in (f.0, f.1, omega (arith, f.2))
    by_first false q later = (at, cc, omega arith)
