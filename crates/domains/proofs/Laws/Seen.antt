-- Laws of what is seen of truths: it says of what a connective makes of them what the connective makes of what is seen.
--     opposite_says, both_says, either_says, implies_says, implied_says     not, and, or, implies
--     both_asked                                              and, where the right one is asked only behind a true left one
--     alike_says, all_pass_says                                   of several truths of which the same is seen
--     connect_says, literal_says                              a connective by its kind; true and false
--     literal_true, literal_false                             what is seen of these by their kinds
--     decided                                                 the right operand doesn't count where the left one decides
--     never_true                                              what is true is not seen never to be
--     never_implies, never_implied, sure_either               what is seen of one operand is enough
--     either_none, none_either, either_assoc                  or, of none and of several
--     yes_says, no_says                                       what is seen for sure is so
--     says_yes, says_no                                       what is so may be seen for sure
-- Assumes nothing.
use mathlib.Core.Path.{◌≡◌, refl, ap}
use mathlib.Core.Bool.{Bool, true, false, not, cond, ◌&&◌, ◌||◌, beq, true≢false, or_comm, and-eq-true_iff}
use mathlib.Core.List.{List}
use Prim.Native.Nat.{ℕ}
use lib.Dec.{eqb}
use borrow.Author.Tests.{eqb-true}
use Rattle.truths.specs.Truth.{implies}
use Rattle.truths.specs.Listed.{Member, all_pass}
use Rattle.truths.proofs.Laws.Truth.{implies_or, by-test}
use Rattle.truths.proofs.Laws.Listed.{all_pass_each, all_pass_fails}
use Rattle.expressions.specs.Expression.{connect_of}
use Rattle.expressions.proofs.Laws.Connect.{connect_by}
use Rattle.domains.specs.declared.seen.Seen.{Seen}
use Rattle.domains.specs.declared.seen.Seen.TheVariants.{Yes, No, Unsure}
use Rattle.domains.specs.Seen.{Says, opposite_of, both_of, either_of, implies_in, implied_in, same_of, connect_in, decides_of, literal_in, sure_of, never_of}

-- ---- truths
or_not : (a b : Bool) → not (not a && not b) ≡ (a || b)
or_not true b = refl
or_not false true = refl
or_not false false = refl

same_true : (b : Bool) → beq true b ≡ b
same_true true = refl
same_true false = refl

same_false : (b : Bool) → beq false b ≡ not b
same_false true = refl
same_false false = refl

-- ---- what is seen for sure
module _ {p : Seen} {a : Bool} (h : Says p a) where
  pub yes_says : p ≡ Yes → a ≡ true
  unfolding Says
  yes_says e = rw e at h

  pub no_says : p ≡ No → a ≡ false
  unfolding Says
  no_says e = rw e at h

pub says_yes : {a : Bool} → a ≡ true → Says Yes a
unfolding Says
says_yes e = e

pub says_no : {a : Bool} → a ≡ false → Says No a
unfolding Says
says_no e = e

-- ---- the connectives
pub literal_says : (kind : ℕ) → Says (literal_in kind) (eqb kind 0x20)
unfolding Says literal_in
literal_says kind = by-test (eqb kind 0x20) (λ t. Says (cond t Yes No) t) (λ e. refl) (λ e. refl)

pub literal_true : literal_in 0x20 ≡ Yes
unfolding literal_in
literal_true = refl

pub literal_false : literal_in 0x21 ≡ No
unfolding literal_in
literal_false = refl

pub opposite_says : (p : Seen) (a : Bool) → Says p a → Says (opposite_of p) (not a)
unfolding Says opposite_of
opposite_says Yes a h = rw h
opposite_says No a h = rw h
opposite_says (Unsure v) a h = tt

-- the right one need not say anything where the left truth is false
pub both_asked : (p q : Seen) (a b : Bool) → Says p a → (a ≡ true → Says q b) → Says (both_of p q) (a && b)
unfolding Says both_of
both_asked Yes q a b h k = rw h (k h)
both_asked No q a b h k = rw h
both_asked (Unsure v) Yes a b h k = tt
both_asked (Unsure v) No true b h k = k refl
both_asked (Unsure v) No false b h k = refl
both_asked (Unsure v) (Unsure w) a b h k = tt

pub both_says : (p q : Seen) (a b : Bool) → Says p a → Says q b → Says (both_of p q) (a && b)
both_says p q a b h k = both_asked p q a b h (λ e. k)

-- what is said of each of several truths is said of all of them together, where there is one
pub alike_says : (p : Seen) (a b : Bool) → Says p a → Says p b → Says p (a && b)
unfolding Says
alike_says Yes a b x y = (and-eq-true_iff a b).1 (x, y)
alike_says No a b x y = rw x
alike_says (Unsure v) a b x y = tt

pub all_pass_says : {A : Type 0} (p : Seen) (test : A → Bool) (xs : List A) (x : A) → Member x xs → ((y : A) → Member y xs → Says p (test y))
    → Says p (all_pass test xs)
unfolding Says
all_pass_says Yes test xs x m h = all_pass_each test xs h
all_pass_says No test xs x m h = all_pass_fails test xs x m (h x m)
all_pass_says (Unsure v) test xs x m h = tt

pub either_says : (p q : Seen) (a b : Bool) → Says p a → Says q b → Says (either_of p q) (a || b)
unfolding either_of
either_says p q a b h k = rw (or_not a b) at (opposite_says _ _ (both_says _ _ _ _ (opposite_says p a h) (opposite_says q b k)))

-- here too, where the premise is false
asked_says : (p q : Seen) (a b : Bool) → Says p a → (a ≡ true → Says q b) → Says (implies_in p q) (not a || b)
unfolding Says opposite_of both_of either_of implies_in
asked_says Yes Yes a b h k = rw h (k h)
asked_says Yes No a b h k = rw h (k h)
asked_says Yes (Unsure w) a b h k = tt
asked_says No q a b h k = rw h
asked_says (Unsure v) Yes true b h k = k refl
asked_says (Unsure v) Yes false b h k = refl
asked_says (Unsure v) No a b h k = tt
asked_says (Unsure v) (Unsure w) a b h k = tt

pub implies_says : (p q : Seen) (a b : Bool) → Says p a → (a ≡ true → Says q b) → Says (implies_in p q) (implies a b)
implies_says p q a b h k = rw (implies_or a b) at (asked_says p q a b h k)

pub implied_says : (p q : Seen) (a b : Bool) → Says p a → Says q b → Says (implied_in q p) (implies a b)
unfolding implied_in
implied_says p q a b h k = rw (or_comm b (not a), implies_or a b) at (either_says q (opposite_of p) b (not a) k (opposite_says p a h))

same_says : (p q : Seen) (a b : Bool) → Says p a → Says q b → Says (same_of p q) (beq a b)
unfolding Says same_of
same_says Yes q a b h k = rw (h, same_true b) k
same_says No q a b h k = rw (h, same_false b) (opposite_says q b k)
same_says (Unsure v) q a b h k = tt

module _ (kind : ℕ) (p q : Seen) where
  pub connect_says : (a b : Bool) → Says p a → Says q b → Says (connect_in kind p q) (connect_of kind a b)
  unfolding connect_in
  connect_says a b h k =
      connect_by (Says (connect_in kind p q)) kind a b (λ e. rw e (both_says p q a b h k)) (λ e f. rw (e, f) (either_says p q a b h k))
      (λ e f g. rw (e, f, g) (asked_says p q a b h (λ d. k))) (λ e f g. rw (e, f, g) (same_says p q a b h k))

-- ---- the left operand is enough
pub decided : (kind : ℕ) (p q : Seen) → decides_of kind p ≡ true → connect_in kind p p ≡ connect_in kind p q
unfolding decides_of connect_in opposite_of both_of either_of implies_in
decided kind Yes q e = rw (eqb-true kind 0x24 e)
decided kind No q e = by_kind (eqb kind 0x23) refl e
  where
    by_kind : (t : Bool) → eqb kind 0x23 ≡ t → cond t true (eqb kind 0x25) ≡ true → connect_in kind No No ≡ connect_in kind No q
    by_kind true f e = rw (eqb-true kind 0x23 f)
    by_kind false f e = rw (eqb-true kind 0x25 e)
decided kind (Unsure v) q e = cc

pub never_true : (p : Seen) (a : Bool) → Says p a → a ≡ true → never_of p ≡ false
unfolding Says never_of
never_true Yes a h e = refl
never_true No a h e = absurd (true≢false (rw e at h))
never_true (Unsure v) a h e = refl

pub never_implies : (p q : Seen) → never_of p ≡ true → Yes ≡ implies_in p q
unfolding never_of implies_in either_of opposite_of both_of
never_implies Yes q e = cc
never_implies No q e = refl
never_implies (Unsure v) q e = cc

pub never_implied : (p q : Seen) → never_of p ≡ true → Yes ≡ implied_in q p
unfolding never_of implied_in either_of opposite_of both_of
never_implied Yes q e = cc
never_implied No Yes e = refl
never_implied No No e = refl
never_implied No (Unsure v) e = refl
never_implied (Unsure v) q e = cc

pub sure_either : (p q : Seen) → sure_of p ≡ true → p ≡ either_of p q
unfolding sure_of either_of opposite_of both_of
sure_either Yes q e = refl
sure_either No q e = cc
sure_either (Unsure v) q e = cc

-- ---- or, of none and of several
opposite_twice : (p : Seen) → opposite_of (opposite_of p) ≡ p
unfolding opposite_of
opposite_twice Yes = refl
opposite_twice No = refl
opposite_twice (Unsure v) = refl

both_assoc : (p q r : Seen) → both_of (both_of p q) r ≡ both_of p (both_of q r)
unfolding both_of
both_assoc Yes q r = refl
both_assoc No q r = refl
both_assoc (Unsure v) Yes r = refl
both_assoc (Unsure v) No r = refl
both_assoc (Unsure v) (Unsure w) Yes = refl
both_assoc (Unsure v) (Unsure w) No = refl
both_assoc (Unsure v) (Unsure w) (Unsure u) = refl

pub either_none : (p : Seen) → either_of p No ≡ p
unfolding either_of opposite_of both_of
either_none Yes = refl
either_none No = refl
either_none (Unsure v) = refl

pub none_either : (p : Seen) → either_of No p ≡ p
unfolding either_of opposite_of both_of
none_either Yes = refl
none_either No = refl
none_either (Unsure v) = refl

pub either_assoc : (p q r : Seen) → either_of (either_of p q) r ≡ either_of p (either_of q r)
unfolding either_of
either_assoc p q r =
    rw (opposite_twice (both_of (opposite_of p) (opposite_of q)), opposite_twice (both_of (opposite_of q) (opposite_of r)))
    (ap opposite_of (both_assoc (opposite_of p) (opposite_of q) (opposite_of r)))
