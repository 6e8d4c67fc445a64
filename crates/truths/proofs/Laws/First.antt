-- Laws of the search for the first number that fails a test.
--     first_is                             a number that fails behind others that pass is the first; so is n where all below it pass
--     first_passes, first_fails            the numbers below it pass; it fails itself where it is below n
--     first_any                            one below n passes exactly if one is the first to fail the test that it doesn't
-- Assumes nothing.
use mathlib.Core.Path.{◌≡◌, refl, sym, ◌∙◌}
use mathlib.Core.Bool.{Bool, true, false, not, cond, false≢true}
use Prim.Native.Nat.{ℕ, zero, suc, ◌+◌, ◌≤◌, ◌<◌}
use native.Mathlib.Decide.{dec_lt}
use native.Mathlib.Omega.{arith}
use borrow.Author.Tests.{lt-ltb, le-ltb, not-true, not-false}
use lib.Dec.{ltb}
use Rattle.truths.specs.Search.{any, first_failing_from, first_failing}
use Rattle.truths.proofs.Laws.Any.{any_below, none_passes}

module _ (test : ℕ → Bool) where
  from_is : (n at r : ℕ) → at ≤ r → r ≤ at + n → ((k : ℕ) → at ≤ k → k < r → test k ≡ true) → (r < at + n → test r ≡ false) → first_failing_from test n at ≡ r
  unfolding first_failing_from
  from_is zero at r a b passes fails = omega arith
  from_is (suc n) at r a b passes fails =
      go (test at) refl (dec_lt at r)
      (λ l. from_is n (at + 1) r (omega arith) (omega arith) (λ k p q. passes k (omega arith) q) (λ q. fails (omega arith)))
    where
      go : (t : Bool) → test at ≡ t → Dec (at < r) → (at < r → first_failing_from test n (at + 1) ≡ r) → cond t (first_failing_from test n (at + 1)) at ≡ r
      go true e (yes l) next = next l
      go true e (no l) next =
          let same : r ≡ at = omega arith in
          absurd (false≢true (sym (fails (omega arith)) ∙ rw same e))
      go false e (yes l) next = absurd (false≢true (sym e ∙ passes at (omega arith) l))
      go false e (no l) next = omega arith

  pub first_is : (n r : ℕ) → r ≤ n → ((k : ℕ) → k < r → test k ≡ true) → (r < n → test r ≡ false) → first_failing test n ≡ r
  unfolding first_failing
  first_is n r b passes fails = from_is n 0 r (omega arith) (omega arith) (λ k p q. passes k q) (λ q. fails (omega arith))

  from_passes : (n at k : ℕ) → at ≤ k → k < first_failing_from test n at → test k ≡ true
  unfolding first_failing_from
  from_passes zero at k a h = absurd (omega arith)
  from_passes (suc n) at k a h = go (test at) refl (dec_lt at k) (λ l q. from_passes n (at + 1) k (omega arith) q) h
    where
      go : (t : Bool) → test at ≡ t → Dec (at < k) → (at < k → k < first_failing_from test n (at + 1) → test k ≡ true)
          → k < cond t (first_failing_from test n (at + 1)) at → test k ≡ true
      go true e (yes l) next q = next l q
      go true e (no l) next q = let same : k ≡ at = omega arith in rw same e
      go false e d next q = absurd (omega arith)

  pub first_passes : (n k : ℕ) → k < first_failing test n → test k ≡ true
  unfolding first_failing
  first_passes n k h = from_passes n 0 k (omega arith) h

  from_fails : (n at : ℕ) → first_failing_from test n at < at + n → test (first_failing_from test n at) ≡ false
  unfolding first_failing_from
  from_fails zero at h = absurd (omega arith)
  from_fails (suc n) at h = go (test at) refl (λ q. from_fails n (at + 1) q) h
    where
      go : (t : Bool) → test at ≡ t → (first_failing_from test n (at + 1) < at + 1 + n → test (first_failing_from test n (at + 1)) ≡ false)
          → cond t (first_failing_from test n (at + 1)) at < at + suc n → test (cond t (first_failing_from test n (at + 1)) at) ≡ false
      go true e next q = next (omega arith)
      go false e next q = e

  pub first_fails : (n : ℕ) → first_failing test n < n → test (first_failing test n) ≡ false
  unfolding first_failing
  first_fails n h = from_fails n 0 (omega arith)

pub first_any : (test : ℕ → Bool) (n : ℕ) → any test n 0 ≡ ltb (first_failing (λ k. not (test k)) n) n
first_any test n = below_or_not (dec_lt first n)
  where
    first : ℕ
    first = first_failing (λ k. not (test k)) n

    fails : (k : ℕ) → k < first → test k ≡ false
    fails k l = not-true (test k) (first_passes (λ k. not (test k)) n k l)

    below_or_not : Dec (first < n) → any test n 0 ≡ ltb first n
    below_or_not (yes l) = rw (lt-ltb first n l) (any_below test n first l (not-false (test first) (first_fails (λ k. not (test k)) n l)))
    below_or_not (no l) = rw (le-ltb first n (omega arith)) (none_passes test n 0 (λ k a b. fails k (omega arith)))
