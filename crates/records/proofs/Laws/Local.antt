-- An expression walks by its own records alone: where they are copied, to any place of any file, the copy walks alike.
--     bytes_same, same_byte, same_there     records are the same where their bytes are, and as many of them are there
--     same_inside, same_record              so are those that lie among them, and the bytes of each
--     kind_same, a_same, b_same, c_same     then so are a record's fields
--     copy_opens                            a copied expression: its record, and its operands, which are copied too
--     walk_local, span_local                the copy walks, over as many records
-- Assumes nothing.
use mathlib.Core.Path.{◌≡◌, refl, sym, ap, ◌∙◌}
use mathlib.Core.Bool.{true}
use mathlib.Core.List.{List, [], ◌∷◌}
use Prim.Native.Nat.{ℕ, zero, suc, ◌+◌, ◌-◌, ◌*◌, ◌/◌, ◌<◌, ◌≤◌}
use native.Mathlib.Nat.{add-zero, zero-add}
use native.Mathlib.Omega.{arith}
use borrow.Author.Tests.{lt-ltb, eq-eqb}
use lib.ListN.{length, get_or, take, drop, length-take, length-drop}
use lib.Seq.{length-take-le, take-nil, take-take, drop-drop, get_or-take, get_or-drop, ext_get_or}
use Rattle.std.specs.declared.option.Option.TheVariants.{Some}
use Rattle.records.specs.declared.kinds.Sort.{Sort}
use Rattle.records.specs.declared.kinds.Sort.TheVariants.{Number, Truth, Divisor}
use Rattle.records.specs.declared.kinds.Operands.{Operands}
use Rattle.records.specs.declared.kinds.Operands.TheVariants.{Zero, One, Two}
use Rattle.std.specs.declared.result.Result.TheVariants.{Ok}
use Rattle.records.specs.Record.{value, kind_at, field_a, value_b, value_c, zeros_of}
use Rattle.records.specs.Kind.{sort_for, signature_at}
use Rattle.records.specs.Walk.{Walked, expression_fields, suits, in_sequence, operands_of, record_then, divisor_then, walk_of, span}
use Rattle.records.proofs.Laws.Kind.{is_sort-one}
use Rattle.records.proofs.Laws.Walk.{walk_opens, walk_suits, walk_deepest, walk_bound, First, operands_none, operands_one, operands_two}
use Rattle.records.proofs.Laws.Span.{walk_span}

-- ---- records that are the same
-- the n records from record `at` on
abbrev pub records_of : List ℕ → ℕ → ℕ → List ℕ
records_of file at n = take (8 * n) (drop (8 * at) file)

drop_take : (j m : ℕ) (l : List ℕ) → drop j (take (j + m) l) ≡ take m (drop j l)
drop_take zero m l = rw zero-add
drop_take (suc j) m [] = rw (take-nil, take-nil)
drop_take (suc j) m (a ∷ l) = let z : suc j + m ≡ suc (j + m) = omega arith in rw z (drop_take j m l)

-- the m records behind the first k of n
inside_is : (file : List ℕ) (at n k m : ℕ) → k + m ≤ n → records_of file (at + k) m ≡ drop (8 * k) (take (8 * k + 8 * m) (records_of file at n))
inside_is file at n k m l =
    let z : 8 * at + 8 * k ≡ 8 * (at + k) = omega arith in
    let y : 8 * k + 8 * m ≤ 8 * n = omega arith in
    rw (take-take (8 * k + 8 * m) (8 * n) (drop (8 * at) file) y, drop_take (8 * k) (8 * m), drop-drop (8 * k) (8 * at) file, z)

module _ (file file' : List ℕ) (at at' n : ℕ) where
  pub bytes_same : 8 * at + 8 * n ≤ length file → 8 * at' + 8 * n ≤ length file'
      → ((i : ℕ) → i < 8 * n → get_or file (8 * at + i) 0 ≡ get_or file' (8 * at' + i) 0) → records_of file at n ≡ records_of file' at' n
  bytes_same l m each =
      let a = length-take-le (8 * n) (drop (8 * at) file) (omega (arith, length-drop (8 * at) file)) in
      let b = length-take-le (8 * n) (drop (8 * at') file') (omega (arith, length-drop (8 * at') file')) in
      ext_get_or 0 (records_of file at n) (records_of file' at' n) (a ∙ sym b)
      (λ i h. let l : i < 8 * n = omega arith in rw (get_or-take, get_or-drop, get_or-take, get_or-drop) (each i l))

  module _ (same : records_of file at n ≡ records_of file' at' n) where
    pub same_byte : (i : ℕ) → i < 8 * n → get_or file (8 * at + i) 0 ≡ get_or file' (8 * at' + i) 0
    same_byte i l = rw (get_or-take, get_or-drop, get_or-take, get_or-drop) at (ap (λ (s : List ℕ). get_or s i 0) same)

    pub same_there : 1 ≤ n → 8 * at + 8 * n ≤ length file → 8 * at' + 8 * n ≤ length file'
    same_there s l =
        let e : length (records_of file at n) ≡ length (records_of file' at' n) = ap length same in
        let a = length-take-le (8 * n) (drop (8 * at) file) (omega (arith, length-drop (8 * at) file)) in
        omega (arith, length-take (8 * n) (drop (8 * at') file'), length-drop (8 * at') file')

    pub same_inside : (k m : ℕ) → k + m ≤ n → records_of file (at + k) m ≡ records_of file' (at' + k) m
    same_inside k m l = inside_is file at n k m l ∙ ap (λ s. drop (8 * k) (take (8 * k + 8 * m) s)) same ∙ sym (inside_is file' at' n k m l)

-- the bytes of one of them
abbrev pub SameRecord : List ℕ → List ℕ → ℕ → ℕ → Type 0
SameRecord file file' at at' = (i : ℕ) → i < 8 → get_or file (8 * at + i) 0 ≡ get_or file' (8 * at' + i) 0

pub same_record : (file file' : List ℕ) (at at' n : ℕ) → records_of file at n ≡ records_of file' at' n → (k : ℕ) → k < n
    → SameRecord file file' (at + k) (at' + k)
same_record file file' at at' n same k l i m =
    same_byte file file' (at + k) (at' + k) 1 (same_inside file file' at at' n same k 1 (omega arith)) i (omega arith)

module _ (file file' : List ℕ) (at at' : ℕ) (byte : SameRecord file file' at at') where
  pub kind_same : kind_at file at ≡ kind_at file' at'
  kind_same = rw (add-zero, add-zero) at (byte 0 (omega arith))

  pub a_same : field_a file at ≡ field_a file' at'
  a_same = byte 1 (omega arith)

  -- two bytes
  value_same : (c : ℕ) → c + 1 < 8 → value file (8 * at + c) ≡ value file' (8 * at' + c)
  value_same c l =
      let y : 8 * at + c + 1 ≡ 8 * at + (c + 1) = omega arith in
      let z : 8 * at' + c + 1 ≡ 8 * at' + (c + 1) = omega arith in
      rw (y, z, byte c (omega arith), byte (c + 1) l)

  pub b_same : value_b file at ≡ value_b file' at'
  b_same = value_same 2 (omega arith)

  pub c_same : value_c file at ≡ value_c file' at'
  c_same = value_same 4 (omega arith)

  zeros_same : (c m : ℕ) → c + m ≤ 8 → zeros_of file (8 * at + c) m ≡ zeros_of file' (8 * at' + c) m
  unfolding zeros_of
  zeros_same c zero l = refl
  zeros_same c (suc m) l =
      let y : 8 * at + c + 1 ≡ 8 * at + (c + 1) = omega arith in
      let z : 8 * at' + c + 1 ≡ 8 * at' + (c + 1) = omega arith in
      rw (y, z, byte c (omega arith), zeros_same (c + 1) m (omega arith))

  fields_same : (vars : ℕ) → expression_fields file vars at ≡ expression_fields file' vars at'
  unfolding expression_fields
  fields_same vars =
      rw (kind_same, a_same, zeros_same 1 1 (omega arith), zeros_same 4 4 (omega arith), zeros_same 2 6 (omega arith), zeros_same 1 7 (omega arith))

  suits_same : (want : Sort) → suits file want at ≡ suits file' want at'
  unfolding suits
  suits_same Number = refl
  suits_same Truth = refl
  suits_same Divisor = rw (kind_same, b_same)

-- ---- a copied expression
-- it walks over n records, and they are the same as those from `at'` on
pub record Copy (file file' : List ℕ) (vars levels : ℕ) (want : Sort) (at at' n : ℕ) : Type 0 where
  pub walks : walk_of file vars levels want at ≡ Ok (at + n)
  pub same : records_of file at n ≡ records_of file' at' n

-- the operands of an expression that has two, of these sorts
pub record TwoCopies (file file' : List ℕ) (vars levels : ℕ) (a b : Sort) (at at' n : ℕ) : Type 0 where
  pub left : ℕ
  pub right : ℕ
  pub all : n ≡ 1 + left + right
  pub first : Copy file file' vars levels a (at + 1) (at' + 1) left
  pub second : Copy file file' vars levels b (at + (1 + left)) (at' + (1 + left)) right

-- its own record, and its operands by how many there are, one level further in
pub record CopiedRecord (file file' : List ℕ) (vars levels : ℕ) (want : Sort) (at at' n : ℕ) : Type 0 where
  pub some : 1 ≤ n
  pub there : at' < length file' / 8
  pub sort : (signature_at file at).sort ≡ Some (sort_for want)
  pub fields : expression_fields file vars at ≡ true
  pub suits : suits file want at ≡ true
  pub byte : SameRecord file file' at at'
  pub none : (signature_at file at).operands ≡ Zero → n ≡ 1
  pub one : {a : Sort} → (signature_at file at).operands ≡ One a → Copy file file' vars levels a (at + 1) (at' + 1) (n - 1)
  pub two : {a b : Sort} → (signature_at file at).operands ≡ Two a b → TwoCopies file file' vars levels a b at at' n

module _ (file file' : List ℕ) (vars levels at at' n : ℕ) (same : records_of file at n ≡ records_of file' at' n) where
  abbrev walk : Sort → ℕ → Walked
  walk = walk_of file vars levels

  -- the operand from x to y
  copied : (want : Sort) (k m x y : ℕ) → x ≡ at + k → y ≡ at + k + m → k + m ≤ n → walk want x ≡ Ok y → Copy file file' vars levels want (at + k) (at' + k) m
  copied want k m x y p q l w = record { walks = rw (← q, ← p) w; same = same_inside file file' at at' n same k m l }

  ahead : (want : Sort) (x y : ℕ) → walk want x ≡ Ok y → x < y
  ahead want x y w = (walk_bound file vars levels want x y w).0

  one_by : (a : Sort) → walk a (at + 1) ≡ Ok (at + n) → Copy file file' vars levels a (at + 1) (at' + 1) (n - 1)
  one_by a w = let l = ahead a (at + 1) (at + n) w in copied a 1 (n - 1) (at + 1) (at + n) refl (omega arith) (omega arith) w

  two_by : (a b : Sort) → First (walk a (at + 1)) (walk b) (Ok (at + n)) → TwoCopies file file' vars levels a b at at' n
  two_by a b f =
      let y = f.mid in
      let l = ahead a (at + 1) y f.first in
      let m = ahead b y (at + n) f.rest in
      let k = y - (at + 1) in
      record {
        left = k;
        right = at + n - y;
        all = omega arith;
        first = copied a 1 k (at + 1) y refl (omega arith) (omega arith) f.first;
        second = copied b (1 + k) (at + n - y) y (at + n) (omega arith) (omega arith) (omega arith) f.rest;
      }

pub copy_opens : (file file' : List ℕ) (vars levels : ℕ) (want : Sort) (at at' n : ℕ) → Copy file file' vars (suc levels) want at at' n
    → CopiedRecord file file' vars levels want at at' n
copy_opens file file' vars levels want at at' n c =
    let o = walk_opens file vars levels want at (at + n) c.walks in
    let b = walk_bound file vars (suc levels) want at (at + n) c.walks in
    let l = same_there file file' at at' n c.same (omega arith) (omega arith) in
    let walk = walk_of file vars levels in
    record {
      some = omega arith;
      there = omega arith;
      sort = o.fit;
      fields = o.right;
      suits = walk_suits file vars levels want at (at + n) c.walks;
      byte = rw (add-zero, add-zero) at (same_record file file' at at' n c.same 0 (omega arith));
      none = λ m. let z : at + 1 ≡ at + n = operands_none walk (at + 1) (at + n) (rw m at o.operands) in omega arith;
      one = λ m. one_by file file' vars levels at at' n c.same _ (operands_one walk (at + 1) (at + n) _ (rw m at o.operands));
      two = λ m. two_by file file' vars levels at at' n c.same _ _ (operands_two walk (at + 1) (at + n) (rw m at o.operands));
    }

-- ---- the copy's walk
record_closes : (file : List ℕ) (vars : ℕ) (want : Sort) (at : ℕ) (rest : Walked) → at < length file / 8 → (signature_at file at).sort ≡ Some (sort_for want)
    → expression_fields file vars at ≡ true → record_then file vars want at rest ≡ rest
unfolding record_then
record_closes file vars want at rest l s f = rw (lt-ltb _ _ l, is_sort-one _ _ s, f)

module _ (file file' : List ℕ) (vars : ℕ) where
  module _ (levels : ℕ) (want : Sort) (at at' n : ℕ) (o : CopiedRecord file file' vars levels want at at' n)
      (operand : (want : Sort) (x x' k : ℕ) → Copy file file' vars levels want x x' k → walk_of file' vars levels want x' ≡ Ok (x' + k)) where
    operands_walk : (q : Operands) → (signature_at file at).operands ≡ q → operands_of (walk_of file' vars levels) q (at' + 1) ≡ Ok (at' + n)
    unfolding operands_of
    operands_walk Zero is = rw (o.none is)
    operands_walk (One a) is = rw (operand _ _ _ (n - 1) (o.one is)) (ap Ok (omega (arith, o.some)))
    operands_walk (Two a b) is =
        let t = o.two is in
        let z : at' + 1 + t.left ≡ at' + (1 + t.left) = omega arith in
        rw (operand _ _ _ _ t.first, z, operand _ _ _ _ t.second) (ap Ok (omega arith))

  pub walk_local : (levels : ℕ) (want : Sort) (at at' n : ℕ) → Copy file file' vars levels want at at' n → walk_of file' vars levels want at' ≡ Ok (at' + n)
  unfolding walk_of divisor_then
  walk_local zero want at at' n c = absurd (walk_deepest file vars want at (at + n) c.walks)
  walk_local (suc levels) want at at' n c =
      let o = copy_opens file file' vars levels want at at' n c in
      let k = kind_same file file' at at' o.byte in
      rw (
        record_closes file' vars want at' _ o.there (rw (← k) o.sort) (rw (← fields_same file file' at at' o.byte vars) o.fields),
        ← suits_same file file' at at' o.byte want,
        o.suits,
        ← k,
      )
      (operands_walk levels want at at' n o (walk_local levels) (signature_at file at).operands refl)

  pub span_local : (levels : ℕ) (want : Sort) (at at' n : ℕ) → Copy file file' vars levels want at at' n
      → span levels (drop (8 * at) file) ≡ span levels (drop (8 * at') file')
  span_local levels want at at' n c =
      let a = walk_span file vars levels want at (at + n) c.walks in
      let b = walk_span file' vars levels want at' (at' + n) (walk_local levels want at at' n c) in
      omega arith
