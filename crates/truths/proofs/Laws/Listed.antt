-- Laws of lists: what is in one, and whether all of it passes a test.
--     all_pass_none, all_pass_more            the test of none, and of one more
--     all_pass_member, all_pass_each           where each passes, so does a member; where each member does, each passes
--     all_pass_fails                      where a member fails, not each passes
--     all_pass_same                       tests that agree at each member agree
--     tabulate_member, tabulated      what is in a table by number
-- Assumes nothing.
use mathlib.Core.Path.{◌≡◌, refl, sym, subst, ap₂, ◌∙◌}
use mathlib.Core.Logic.{inl, inr}
use mathlib.Core.Bool.{Bool, true, false, ◌&&◌, and-eq-true_iff, false≢true}
use mathlib.Core.List.{List, [], ◌∷◌}
use Prim.Native.Nat.{ℕ, zero, suc, ◌+◌, ◌<◌}
use native.Mathlib.Omega.{arith}
use Rattle.truths.specs.Listed.{Member, all_pass}
use Rattle.truths.specs.Table.{tabulate}
use Rattle.truths.proofs.Laws.Truth.{is_true, is_false}

module _ {A : Type 0} (test : A → Bool) where
  pub all_pass_none : all_pass test [] ≡ true
  unfolding all_pass
  all_pass_none = refl

  pub all_pass_more : (x : A) (xs : List A) → all_pass test (x ∷ xs) ≡ (test x && all_pass test xs)
  unfolding all_pass
  all_pass_more x xs = refl

  pub all_pass_member : (xs : List A) (x : A) → all_pass test xs ≡ true → Member x xs → test x ≡ true
  unfolding all_pass
  all_pass_member [] x e m = absurd m
  all_pass_member (y ∷ ys) x e (inl is) = subst (λ (z : A). test z ≡ true) (sym is) ((and-eq-true_iff (test y) (all_pass test ys)).0 e).0
  all_pass_member (y ∷ ys) x e (inr m) = all_pass_member ys x ((and-eq-true_iff (test y) (all_pass test ys)).0 e).1 m

  pub all_pass_each : (xs : List A) → ((x : A) → Member x xs → test x ≡ true) → all_pass test xs ≡ true
  unfolding all_pass
  all_pass_each [] h = refl
  all_pass_each (y ∷ ys) h = (and-eq-true_iff (test y) (all_pass test ys)).1 (h y (inl refl), all_pass_each ys (λ x m. h x (inr m)))

pub all_pass_fails : {A : Type 0} (test : A → Bool) (xs : List A) (x : A) → Member x xs → test x ≡ false → all_pass test xs ≡ false
all_pass_fails test xs x m e = is_false _ (λ t. false≢true (sym e ∙ all_pass_member test xs x (is_true _ t) m))

pub all_pass_same : {A : Type 0} (f g : A → Bool) (xs : List A) → ((x : A) → Member x xs → f x ≡ g x) → all_pass f xs ≡ all_pass g xs
unfolding all_pass
all_pass_same f g [] h = refl
all_pass_same f g (y ∷ ys) h = ap₂ ◌&&◌ (h y (inl refl)) (all_pass_same f g ys (λ x m. h x (inr m)))

module _ {A : Type 0} (f : ℕ → A) where
  pub tabulate_member : (n at i : ℕ) → i < n → Member (f (at + i)) (tabulate f n at)
  unfolding tabulate
  tabulate_member zero at i l = absurd (omega arith)
  tabulate_member (suc n) at zero l = let z : at + 0 ≡ at = omega arith in inl (rw z)
  tabulate_member (suc n) at (suc i) l =
      let z : at + suc i ≡ at + 1 + i = omega arith in
      inr (subst (λ j. Member (f j) (tabulate f n (at + 1))) (sym z) (tabulate_member n (at + 1) i (omega arith)))

  pub tabulated : (n at : ℕ) {x : A} → Member x (tabulate f n at) → (i : ℕ) × (i < n) × (x ≡ f (at + i))
  unfolding tabulate
  tabulated zero at m = absurd m
  tabulated (suc n) at (inl e) = let z : at + 0 ≡ at = omega arith in (0, omega arith, rw z e)
  tabulated (suc n) at {x} (inr m) =
      let r = tabulated n (at + 1) m in
      let z : at + suc r.0 ≡ at + 1 + r.0 = omega arith in
      (suc r.0, omega (arith, r.1), rw z r.2)
