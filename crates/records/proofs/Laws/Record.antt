-- Laws of the tests of a record.
--     kind_is_lem                    a record that passes the test of its kind is there, and has that kind
--     bytes_none, bytes_next     bytes are the same where there are none, and where the first are and the others
--     bytes_joined               so are those of two parts, one behind the other, that are the same
--     word_bytes                 so are those of two words that are the same
-- Assumes nothing.
use mathlib.Core.Path.{◌≡◌, refl, ap, ◌∙◌}
use mathlib.Core.Bool.{Bool, true, ◌&&◌, and-eq-true_iff, and_assoc}
use mathlib.Core.List.{List}
use Prim.Native.Nat.{ℕ, zero, suc, ◌+◌, ◌/◌, ◌<◌}
use native.Mathlib.Omega.{arith}
use borrow.Author.Tests.{ltb-true, eqb-true, eq-eqb}
use lib.Dec.{ltb, eqb}
use lib.ListN.{length, get_or}
use Rattle.records.specs.Record.{word, kind_at, kind_is, same_bytes}

pub kind_is_lem : (file : List ℕ) (kind at : ℕ) → kind_is file kind at ≡ true → (at < length file / 8) × (kind_at file at ≡ kind)
unfolding kind_is
kind_is_lem file kind at e =
    let b = (and-eq-true_iff (ltb at (length file / 8)) (eqb (kind_at file at) kind)).0 e in
    (ltb-true _ _ b.0, eqb-true _ _ b.1)

-- ---- bytes from two places on, by how far behind them
module _ (file : List ℕ) (i j : ℕ) where
  pub bytes_none : (c : ℕ) → same_bytes file (i + c) (j + c) zero ≡ true
  unfolding same_bytes
  bytes_none c = refl

  pub bytes_next : (c n : ℕ) → get_or file (i + c) 0 ≡ get_or file (j + c) 0 → same_bytes file (i + (c + 1)) (j + (c + 1)) n ≡ true
      → same_bytes file (i + c) (j + c) (suc n) ≡ true
  unfolding same_bytes
  bytes_next c n first rest =
      let y : i + c + 1 ≡ i + (c + 1) = omega arith in
      let z : j + c + 1 ≡ j + (c + 1) = omega arith in
      rw (eq-eqb _ _ first, y, z, rest) refl

  pub word_bytes : ((k : ℕ) → get_or file k 0 < 256) → (c : ℕ) → word file (i + c) ≡ word file (j + c)
      → (get_or file (i + c) 0 ≡ get_or file (j + c) 0) × (get_or file (i + (c + 1)) 0 ≡ get_or file (j + (c + 1)) 0)
  word_bytes byte c e =
      let y : i + c + 1 ≡ i + (c + 1) = omega arith in
      let z : j + c + 1 ≡ j + (c + 1) = omega arith in
      let p = byte (i + c) in
      let q = byte (j + c) in
      let w = rw (y, z) at e in
      (omega arith, omega arith)

-- ---- bytes in two parts
module _ (file : List ℕ) where
  in_parts : (i j m n : ℕ) → (same_bytes file i j m && same_bytes file (i + m) (j + m) n) ≡ same_bytes file i j (m + n)
  unfolding same_bytes
  in_parts i j zero n =
      let x : i + 0 ≡ i = omega arith in
      let y : j + 0 ≡ j = omega arith in
      let z : 0 + n ≡ n = omega arith in
      rw (x, y, z)
  in_parts i j (suc m) n =
      let first = eqb (get_or file i 0) (get_or file j 0) in
      let x : i + suc m ≡ i + 1 + m = omega arith in
      let y : j + suc m ≡ j + 1 + m = omega arith in
      let z : suc m + n ≡ suc (m + n) = omega arith in
      rw (x, y, z)
      (and_assoc first (same_bytes file (i + 1) (j + 1) m) (same_bytes file (i + 1 + m) (j + 1 + m) n)
      ∙ ap (λ (b : Bool). first && b) (in_parts (i + 1) (j + 1) m n))

  pub bytes_joined : (i j k l m n : ℕ) → k ≡ i + m → l ≡ j + m → (same_bytes file i j m && same_bytes file k l n) ≡ same_bytes file i j (m + n)
  bytes_joined i j k l m n e f = rw (e, f) (in_parts i j m n)
