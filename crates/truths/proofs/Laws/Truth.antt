-- Laws of Bool, as far as mathlib.Core.Bool lacks them.
--     passes_or_fails                 a truth is true or not
--     by-test                         what is so in either case is so
--     is_true, so_true, is_false, so_false     `T b` and `b ≡ true` say the same, `T (not b)` and `b ≡ false` too
--     same_truth                      truths that imply each other are equal
--     implies_true, implies_false     an implication, by its premise
--     implied, implies_or             what a true premise implies is true; the implication as a disjunction
--     implies_both, implies_own       an implication of an implication
--     and_asked                       a conjunction with a true part is the other
--     both, left, right, either       conjunctions and disjunctions of truths
--     or_first, or_second, or_other, or_cases, or_neither     a disjunction is true by a part, and false where neither is true
-- Assumes nothing.
use mathlib.Core.Path.{◌≡◌, refl, sym}
use mathlib.Core.Logic.{◌⊎◌, inl, inr}
use mathlib.Core.Bool.{Bool, true, false, not, ◌&&◌, ◌||◌, false≢true}
use lib.Dec.{T}
use Rattle.truths.specs.Truth.{implies}

pub by-test {ℓ} : (t : Bool) (P : Bool → Type ℓ) → (t ≡ true → P true) → (t ≡ false → P false) → P t
by-test true P y n = y refl
by-test false P y n = n refl

pub passes_or_fails : (b : Bool) → T b ⊎ T (not b)
passes_or_fails true = inl tt
passes_or_fails false = inr tt

-- ---- a truth as a fact, and as an equation
pub is_true : (b : Bool) → T b → b ≡ true
is_true true t = refl
is_true false t = absurd t

pub so_true : (b : Bool) → b ≡ true → T b
so_true true e = tt
so_true false e = absurd (false≢true e)

pub is_false : (b : Bool) → (T b → ⊥) → b ≡ false
is_false true f = absurd (f tt)
is_false false f = refl

pub so_false : (b : Bool) → b ≡ false → T (not b)
so_false true e = absurd (false≢true (sym e))
so_false false e = tt

pub same_truth : (a b : Bool) → (a ≡ true → b ≡ true) → (b ≡ true → a ≡ true) → a ≡ b
same_truth true b f g = sym (f refl)
same_truth false true f g = g refl
same_truth false false f g = refl

-- ---- implications
pub implies_true : (b : Bool) → implies true b ≡ b
unfolding implies
implies_true b = refl

pub implies_false : (b : Bool) → implies false b ≡ true
unfolding implies
implies_false b = refl

pub implied : (a b : Bool) → implies a b ≡ true → T a → T b
unfolding implies
implied true b e t = so_true b e
implied false b e t = absurd t

pub implies_or : (a b : Bool) → (not a || b) ≡ implies a b
unfolding implies
implies_or true b = refl
implies_or false b = refl

pub implies_both : (a b c : Bool) → implies a (implies b c) ≡ implies (a && b) c
unfolding implies
implies_both true b c = refl
implies_both false b c = refl

-- what is implied may repeat the premise
pub implies_own : (a b c : Bool) → implies a (implies b (b && c)) ≡ implies (a && b) c
unfolding implies
implies_own true true c = refl
implies_own true false c = refl
implies_own false b c = refl

-- ---- conjunctions
pub both : (a b : Bool) → T a → T b → T (a && b)
both true b t u = u
both false b t u = absurd t

pub left : (a b : Bool) → T (a && b) → T a
left true b t = tt
left false b t = absurd t

pub right : (a b : Bool) → T (a && b) → T b
right true b t = t
right false b t = absurd t

pub and_asked : {a b : Bool} (c : Bool) → a ≡ true → b ≡ c → (a && b) ≡ c
and_asked c e f = rw (e, f)

-- ---- disjunctions
pub either : (a b : Bool) → T (a || b) → T a ⊎ T b
either true b t = inl tt
either false b t = inr t

pub or_first : (a b : Bool) → a ≡ true → (a || b) ≡ true
or_first a b e = rw e

pub or_second : (a b : Bool) → b ≡ true → (a || b) ≡ true
or_second true b e = refl
or_second false b e = e

pub or_cases : (a b : Bool) → (a || b) ≡ true → (a ≡ true) ⊎ (b ≡ true)
or_cases true b e = inl refl
or_cases false b e = inr e

pub or_other : (a b : Bool) → (a || b) ≡ true → a ≡ false → b ≡ true
or_other true b e f = absurd (false≢true (sym f))
or_other false b e f = e

pub or_neither : (a b : Bool) → (a || b) ≡ false → (a ≡ false) × (b ≡ false)
or_neither true b e = absurd (false≢true (sym e))
or_neither false b e = (refl, e)
