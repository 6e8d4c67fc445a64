-- Laws of lists that are put together by number.
--     each_none, each_more    of no number, and of one number more
--     each_same               lists that agree at each number agree
--     each_length, each_at    blocks of one size: an element is found by a quotient and a remainder
--     each_in, in_each        an element stands in the list of some number, and what stands there is an element
--     at_in, member_at        what is found at an index is an element, and an element stands at one
-- Assumes nothing.
use mathlib.Core.Path.{◌≡◌, refl, sym, ap, ap₂, ◌∙◌}
use mathlib.Core.Logic.{◌⊎◌, inl, inr}
use mathlib.Core.List.Memᴰ
use mathlib.Core.List.{List, [], ◌∷◌, ◌++◌, Memᴰ}
use Prim.Native.Nat.{ℕ, zero, suc, ◌+◌, ◌*◌, ◌-◌, ◌/◌, ◌%◌, ◌≤◌, ◌<◌}
use native.Mathlib.Nat.{not-suc-le-zero, zero-mul, suc-mul, add-zero, div-eq_of_lt, mod-eq_of_lt, div-eq-sub-div, mod-eq-sub-mod}
use native.Mathlib.Decide.{dec_lt}
use native.Mathlib.Omega.{arith}
use lib.ListN.{length, get_or, length-append, get_or-append}
use lib.Seq.{get_or-append-add}
use Rattle.conditions.specs.Condition.{each}

pub each_none : {A : Type 0} (f : ℕ → List A) (at : ℕ) → each f 0 at ≡ []
unfolding each
each_none f at = refl

pub each_more : {A : Type 0} (f : ℕ → List A) (n at : ℕ) → each f (suc n) at ≡ f at ++ each f n (at + 1)
unfolding each
each_more f n at = refl

pub each_same : {A : Type 0} (f g : ℕ → List A) (n at : ℕ) → ((i : ℕ) → at ≤ i → i < at + n → f i ≡ g i) → each f n at ≡ each g n at
unfolding each
each_same f g zero at e = refl
each_same f g (suc n) at e = ap₂ ◌++◌ (e at (omega arith) (omega arith)) (each_same f g n (at + 1) (λ i p q. e i (omega arith) (omega arith)))

-- ---- blocks of one size
module _ {A : Type 0} (f : ℕ → List A) (size : ℕ) where
  pub each_length : (n at : ℕ) → ((i : ℕ) → at ≤ i → i < at + n → length (f i) ≡ size) → length (each f n at) ≡ n * size
  unfolding each
  each_length zero at same = sym (zero-mul size)
  each_length (suc n) at same =
      simp (length-append, suc-mul)
      (omega (arith, same at (omega arith) (omega arith), each_length n (at + 1) (λ i p q. same i (omega arith) (omega arith))))

  pub each_at : (d : A) → 0 < size → (n at k : ℕ) → ((i : ℕ) → at ≤ i → i < at + n → length (f i) ≡ size) → k < n * size
      → get_or (each f n at) k d ≡ get_or (f (at + k / size)) (k % size) d
  unfolding each
  each_at d some zero at k same h = absurd (not-suc-le-zero (rw zero-mul at h))
  each_at d some (suc n) at k same h =
      go (dec_lt k size)
      (λ l. each_at d some n (at + 1) (k - size) (λ i p q. same i (omega arith) (omega arith)) (let e = suc-mul n size in omega arith))
    where
      here : length (f at) ≡ size
      here = same at (omega arith) (omega arith)

      go : Dec (k < size) → (size ≤ k → get_or (each f n (at + 1)) (k - size) d ≡ get_or (f (at + 1 + (k - size) / size)) ((k - size) % size) d)
          → get_or (f at ++ each f n (at + 1)) k d ≡ get_or (f (at + k / size)) (k % size) d
      go (yes l) next = rw (div-eq_of_lt l, mod-eq_of_lt l, add-zero at) (get_or-append (f at) (each f n (at + 1)) d k (rw here l))
      go (no l) next =
          let above : size ≤ k = omega arith in
          let there : k ≡ length (f at) + (k - size) = omega (arith, here) in
          ap (λ (i : ℕ). get_or (f at ++ each f n (at + 1)) i d) there
          ∙ get_or-append-add (f at) (each f n (at + 1)) (k - size) d
          ∙ next above
          ∙ ap₂ (λ (i j : ℕ). get_or (f i) j d) (omega (arith, div-eq-sub-div some above)) (sym (mod-eq-sub-mod above))

-- ---- elements
-- one of the n numbers from `at` on in whose list the element stands
pub record Placed {A : Type 0} (f : ℕ → List A) (a : A) (n at : ℕ) : Type 0 where
  pub which : ℕ
  pub from : at ≤ which
  pub below : which < at + n
  pub listed : Memᴰ a (f which)

pub each_in : {A : Type 0} (f : ℕ → List A) (a : A) (n at : ℕ) → Memᴰ a (each f n at) → Placed f a n at
unfolding each
each_in f a zero at m = absurd (Memᴰ.not-nil m)
each_in f a (suc n) at m = go (Memᴰ.append_cases (f at) m) (each_in f a n (at + 1))
  where
    go : Memᴰ a (f at) ⊎ Memᴰ a (each f n (at + 1)) → (Memᴰ a (each f n (at + 1)) → Placed f a n (at + 1)) → Placed f a (suc n) at
    go (inl h) next = record { which = at; from = omega arith; below = omega arith; listed = h }
    go (inr h) next =
        let p = next h in
        record { which = p.which; from = omega (arith, p.from); below = omega (arith, p.below); listed = p.listed }

pub in_each : {A : Type 0} {a : A} (f : ℕ → List A) (n at i : ℕ) → at ≤ i → i < at + n → Memᴰ a (f i) → Memᴰ a (each f n at)
unfolding each
in_each f zero at i l h m = absurd (omega arith)
in_each {A} {a} f (suc n) at i l h m = go (dec_lt at i) (λ k. in_each f n (at + 1) i (omega arith) (omega arith) m)
  where
    go : Dec (at < i) → (at < i → Memᴰ a (each f n (at + 1))) → Memᴰ a (f at ++ each f n (at + 1))
    go (yes k) next = Memᴰ.append_right (f at) (next k)
    go (no k) next =
        let same : i ≡ at = omega arith in
        Memᴰ.append_left (each f n (at + 1)) (rw same at m)

pub at_in : {A : Type 0} (l : List A) (k : ℕ) (d : A) → k < length l → Memᴰ (get_or l k d) l
at_in [] k d h = absurd (omega arith)
at_in (x ∷ l) zero d h = Memᴰ.head refl
at_in (x ∷ l) (suc k) d h = Memᴰ.tail (at_in l k d (omega arith))

-- what is in a list stands at an index
pub record At {A : Type 0} (d a : A) (list : List A) : Type 0 where
  pub index : ℕ
  pub below : index < length list
  pub is : get_or list index d ≡ a

pub member_at : {A : Type 0} (d : A) {a : A} {list : List A} → Memᴰ a list → At d a list
member_at d (Memᴰ.head e) = record { index = 0; below = omega arith; is = sym e }
member_at d (Memᴰ.tail m) = let x = member_at d m in record { index = suc x.index; below = omega (arith, x.below); is = x.is }
