-- Laws of the walk that the crates above cite.
--     walk_opens     an expression that walks to an end: what its record is, and that its operands walk to that end (C2.1)
--     walk_suits     and that it is a divisor where one is asked (C2.15)
--     walk_bound     the end lies behind the record and within the file
--     then_ends                           a part, and what follows it: where the part ends, unless its refusal stands
--     sequence_none, sequence_next        no part, and one behind a part that ends
--     sequence_first, sequence_one        parts in sequence that end, from the first on
--     sequence_induct, sequence_bound     by induction over them: they end within the file too
--     operands_none, operands_one, operands_two     a record's operands that end, by how many there are
-- Assumes nothing.
use mathlib.Core.Path.{◌≡◌, refl, sym, ◌∙◌}
use mathlib.Core.Bool.{Bool, true, false, cond, ◌&&◌, and-eq-true_iff}
use mathlib.Core.List.{List}
use Prim.Native.Nat.{ℕ, zero, suc, ◌+◌, ◌/◌, ◌<◌, ◌≤◌}
use native.Mathlib.Omega.{arith}
use borrow.Author.Tests.{ltb-true, eqb-true}
use lib.ListN.{length}
use lib.Dec.{ltb, eqb}
use Rattle.std.specs.declared.option.Option.TheVariants.{Some}
use Rattle.std.specs.declared.result.Result.{Result}
use Rattle.std.specs.declared.result.Result.TheVariants.{Ok, Err}
use Rattle.shapes.specs.declared.Refusal.{Refusal}
use Rattle.shapes.specs.Refusal.{and_then}
use Rattle.records.specs.Walk.{Walked, expression_fields, suits, in_sequence, operands_of, record_then, divisor_then, walk_of}
use Rattle.records.specs.declared.kinds.Sort.{Sort}
use Rattle.records.specs.declared.kinds.Operands.{Operands}
use Rattle.records.specs.declared.kinds.Operands.TheVariants.{Zero, One, Two}
use Rattle.records.specs.Kind.{sort_for, is_sort, signature_at}
use Rattle.records.proofs.Laws.Kind.{is_sort-true}

-- what is known of a record that passed its tests, where `rest` follows it: the walk of its operands
pub record WalkedRecord (file : List ℕ) (vars : ℕ) (want : Sort) (at : ℕ) (rest : Walked) (end : ℕ) : Type 0 where
  pub here : at < length file / 8
  pub fit : (signature_at file at).sort ≡ Some (sort_for want)
  pub right : expression_fields file vars at ≡ true
  pub operands : rest ≡ Ok end

passed : (k f : Bool) (rest : Walked) (at end : ℕ) → cond k (cond f rest (Err (Refusal.Field at))) (Err (Refusal.Kind at)) ≡ Ok end
    → (k ≡ true) × (f ≡ true) × (rest ≡ Ok end)
passed true true rest at end e = (refl, refl, e)
passed true false rest at end e = let z : ◌≡◌ {A = ℕ} 0 1 = cc in absurd (omega arith)
passed false f rest at end e = let z : ◌≡◌ {A = ℕ} 0 1 = cc in absurd (omega arith)

record_opens : (file : List ℕ) (vars : ℕ) (want : Sort) (at : ℕ) (rest : Walked) (end : ℕ) → record_then file vars want at rest ≡ Ok end
    → WalkedRecord file vars want at rest end
unfolding record_then
record_opens file vars want at rest end e =
    let here = ltb at (length file / 8) in
    let fit = is_sort (signature_at file at).sort (sort_for want) in
    let p = passed (here && fit) (expression_fields file vars at) rest at end e in
    let b = (and-eq-true_iff here fit).0 p.0 in
    record { here = ltb-true _ _ b.0; fit = is_sort-true _ _ b.1; right = p.1; operands = p.2 }

-- past the test of a divisor
suited : (t : Bool) (rest : Walked) (at end : ℕ) → cond t rest (Err (Refusal.Divisor at)) ≡ Ok end → (t ≡ true) × (rest ≡ Ok end)
suited true rest at end e = (refl, e)
suited false rest at end e = let z : ◌≡◌ {A = ℕ} 0 1 = cc in absurd (omega arith)

module _ (file : List ℕ) (vars levels : ℕ) (want : Sort) (at end : ℕ) (e : walk_of file vars (suc levels) want at ≡ Ok end) where
  abbrev operands : Walked
  operands = operands_of (walk_of file vars levels) (signature_at file at).operands (at + 1)

  opened : WalkedRecord file vars want at (divisor_then file want at operands) end
  unfolding walk_of
  opened = record_opens file vars want at _ end e

  tested : (suits file want at ≡ true) × (operands ≡ Ok end)
  unfolding divisor_then
  tested = suited (suits file want at) operands at end opened.operands

  pub walk_opens : WalkedRecord file vars want at operands end
  walk_opens = record { here = opened.here; fit = opened.fit; right = opened.right; operands = tested.1 }

  pub walk_suits : suits file want at ≡ true
  walk_suits = tested.0

pub walk_deepest : (file : List ℕ) (vars : ℕ) (want : Sort) (at end : ℕ) → walk_of file vars zero want at ≡ Ok end → ⊥
unfolding walk_of
walk_deepest file vars want at end e =
    let z : ◌≡◌ {A = ℕ} 0 1 = cc (record_opens file vars want at (Err (Refusal.Limit at)) end e).operands in
    omega arith

-- ---- a part, and what follows it, of any type of answers
-- the part is found where what follows begins, and that answers
pub record First {A B : Type 0} (part : Result A Refusal) (next : A → B) (answer : B) : Type 0 where
  pub mid : A
  pub first : part ≡ Ok mid
  pub rest : next mid ≡ answer

pub then_ends : {A B : Type 0} (part : Result A Refusal) {next : A → Result B Refusal} {end : B} → and_then part next ≡ Ok end → First part next (Ok end)
then_ends (Ok mid) e = record { mid = mid; first = refl; rest = e }
then_ends (Err refusal) e = let z : ◌≡◌ {A = ℕ} 0 1 = cc in absurd (omega arith)

-- ---- parts in sequence, one at a time
module _ (part : ℕ → Walked) where
  pub sequence_none : (at : ℕ) → in_sequence part zero at ≡ Ok at
  unfolding in_sequence
  sequence_none at = refl

  pub sequence_next : (n at x : ℕ) → part at ≡ Ok x → in_sequence part (suc n) at ≡ in_sequence part n x
  unfolding in_sequence
  sequence_next n at x e = rw e

-- ---- parts in sequence that end at `end`
module _ (part : ℕ → Walked) (end : ℕ) where
  pub sequence_first : (n at : ℕ) → in_sequence part (suc n) at ≡ Ok end → First (part at) (in_sequence part n) (Ok end)
  unfolding in_sequence
  sequence_first n at = then_ends (part at)

  pub sequence_one : (at : ℕ) → in_sequence part 1 at ≡ Ok end → part at ≡ Ok end
  sequence_one at e = let f = sequence_first 0 at e in f.first ∙ sym (sequence_none part f.mid) ∙ f.rest

-- by induction: Q is shown behind the last part, and carried back past each part that ends
module _ (part : ℕ → Walked) (end : ℕ) (Q : ℕ → ℕ → Type 0) (base : Q zero end)
    (back : (n at x : ℕ) → part at ≡ Ok x → Q n x → Q (suc n) at) where
  pub sequence_induct : (n at : ℕ) → in_sequence part n at ≡ Ok end → Q n at
  unfolding in_sequence
  sequence_induct zero at e = let z : at ≡ end = cc in rw z base
  sequence_induct (suc n) at e = let f = then_ends (part at) e in back n at f.mid f.first (sequence_induct n f.mid f.rest)

-- parts that each end behind their first record and within `most` end so in turn
pub sequence_bound : (part : ℕ → Walked) (most : ℕ) → ((i e : ℕ) → part i ≡ Ok e → (i < e) × (e ≤ most))
    → (n at end : ℕ) → at ≤ most → in_sequence part n at ≡ Ok end → (at ≤ end) × (end ≤ most)
sequence_bound part most bound n at end l e =
    sequence_induct part end (λ n at. at ≤ most → (at ≤ end) × (end ≤ most)) (λ l. omega arith)
    (λ n at x is h l.
    let a = bound at x is in
    let b = h a.1 in
    omega arith)
    n at e l

-- ---- a record's operands, that end at `end`
module _ (part : Sort → ℕ → Walked) (at end : ℕ) where
  pub operands_none : operands_of part Zero at ≡ Ok end → at ≡ end
  unfolding operands_of
  operands_none e = cc

  pub operands_one : (a : Sort) → operands_of part (One a) at ≡ Ok end → part a at ≡ Ok end
  unfolding operands_of
  operands_one a e = e

  pub operands_two : {a b : Sort} → operands_of part (Two a b) at ≡ Ok end → First (part a at) (part b) (Ok end)
  unfolding operands_of
  operands_two {a = a} e = then_ends (part a at) e

  operands_bound : (most : ℕ) → ((want : Sort) (i e : ℕ) → part want i ≡ Ok e → (i < e) × (e ≤ most)) → (operands : Operands) → at ≤ most
      → operands_of part operands at ≡ Ok end → (at ≤ end) × (end ≤ most)
  unfolding operands_of
  operands_bound most bound Zero l e = let z : at ≡ end = cc in omega arith
  operands_bound most bound (One a) l e = let x = bound a at end e in omega arith
  operands_bound most bound (Two a b) l e =
      let f = operands_two e in
      let x = bound a at f.mid f.first in
      let y = bound b f.mid end f.rest in
      omega arith

pub walk_bound : (file : List ℕ) (vars levels : ℕ) (want : Sort) (at end : ℕ) → walk_of file vars levels want at ≡ Ok end → (at < end) × (end ≤ length file / 8)
walk_bound file vars zero want at end e = absurd (walk_deepest file vars want at end e)
walk_bound file vars (suc levels) want at end e =
    let o = walk_opens file vars levels want at end e in
    let l = o.here in
    let b =
    operands_bound (walk_of file vars levels) (at + 1) end (length file / 8) (walk_bound file vars levels) (signature_at file at).operands
    (omega arith) o.operands in
    omega arith
