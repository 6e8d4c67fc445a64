-- What refuses a walk that begins within the file.
--     refused_then         of a part and others behind it, it is what refuses the part or the others
--     refused_sequence     of parts in sequence it is what refuses one of them
--     refused_walk         of an expression it has a number of 3 or more, and its place is a record of the file or the record count
--     divisor_refused      a record that fits where a divisor is asked, but isn't one, is refused with 19, whatever stands behind it (C10.19, C11.2)
-- Assumes nothing.
use mathlib.Core.Path.{◌≡◌, refl, subst, ◌∙◌}
use mathlib.Core.Bool.{Bool, true, false, cond, ◌&&◌, and-eq-true_iff}
use mathlib.Core.List.{List}
use Prim.Native.Nat.{ℕ, zero, suc, ◌+◌, ◌/◌, ◌<◌, ◌≤◌}
use native.Mathlib.Omega.{arith}
use borrow.Author.Tests.{ltb-true, lt-ltb, eq-eqb}
use lib.ListN.{length}
use lib.Dec.{ltb, eqb}
use Rattle.std.specs.declared.result.Result.TheVariants.{Ok, Err}
use Rattle.shapes.specs.declared.Refusal.{Refusal}
use Rattle.shapes.specs.Refusal.{refused_number, refused_place, and_then}
use Rattle.std.specs.declared.option.Option.TheVariants.{Some}
use Rattle.records.specs.declared.kinds.Sort.{Sort}
use Rattle.records.specs.declared.kinds.Operands.{Operands}
use Rattle.records.specs.declared.kinds.Operands.TheVariants.{Zero, One, Two}
use Rattle.records.specs.Kind.{number as number_sort, divisor, sort_for, is_sort, signature_at}
use Rattle.records.proofs.Laws.Kind.{is_sort-one}
use Rattle.records.specs.Walk.{Walked, expression_fields, suits, in_sequence, operands_of, record_then, divisor_then, walk_of}
use Rattle.records.proofs.Laws.Walk.{walk_bound}

-- ---- parts that end by `most`: Q is what is known of a refusal of one of them
module _ (part : ℕ → Walked) (most : ℕ) (refusal : Refusal) (Q : Type 0) (ends : (i e : ℕ) → part i ≡ Ok e → e ≤ most)
    (refused : (i : ℕ) → i ≤ most → part i ≡ Err refusal → Q) where
  refused_part : (others : ℕ → Walked) (at : ℕ) → at ≤ most → (w : Walked) → part at ≡ w → ((x : ℕ) → x ≤ most → others x ≡ Err refusal → Q)
      → and_then w others ≡ Err refusal → Q
  refused_part others at l (Ok x) is later e = later x (ends at x is) e
  refused_part others at l (Err q) is later e = refused at l (is ∙ e)

  pub refused_then : (others : ℕ → Walked) (at : ℕ) → at ≤ most → ((x : ℕ) → x ≤ most → others x ≡ Err refusal → Q)
      → and_then (part at) others ≡ Err refusal → Q
  refused_then others at l later e = refused_part others at l (part at) refl later e

  pub refused_sequence : (n at : ℕ) → at ≤ most → in_sequence part n at ≡ Err refusal → Q
  unfolding in_sequence
  refused_sequence zero at l e = let z : ◌≡◌ {A = ℕ} 0 1 = cc in absurd (omega arith)
  refused_sequence (suc n) at l e = refused_then (in_sequence part n) at l (refused_sequence n) e

module _ (part : Sort → ℕ → Walked) (most : ℕ) (refusal : Refusal) (Q : Type 0) (ends : (want : Sort) (i e : ℕ) → part want i ≡ Ok e → e ≤ most)
    (refused : (want : Sort) (i : ℕ) → i ≤ most → part want i ≡ Err refusal → Q) where
  refused_operands : (operands : Operands) (at : ℕ) → at ≤ most → operands_of part operands at ≡ Err refusal → Q
  unfolding operands_of
  refused_operands Zero at l e = let z : ◌≡◌ {A = ℕ} 0 1 = cc in absurd (omega arith)
  refused_operands (One a) at l e = refused a at l e
  refused_operands (Two a b) at l e = refused_then (part a) most refusal Q (ends a) (refused a) (part b) at l (refused b) e

-- ---- an expression
module _ (file : List ℕ) (vars : ℕ) (refusal : Refusal) where
  abbrev Right : Type 0
  Right = (3 ≤ refused_number refusal) × (refused_place refusal ≤ length file / 8)

  abbrev ok-or : Refusal → Walked
  ok-or q = Err q

  -- a refusal of the record at `at` itself
  of_record : {at : ℕ} → at ≤ length file / 8 → (q : Refusal) → 3 ≤ refused_number q → refused_place q ≡ at → ok-or q ≡ Err refusal → Right
  of_record l q n p e = let z : q ≡ refusal = cc in subst (λ (r : Refusal). (3 ≤ refused_number r) × (refused_place r ≤ length file / 8)) z (n, omega arith)

  module _ (at : ℕ) (rest : Walked) (l : at ≤ length file / 8) (behind : at < length file / 8 → rest ≡ Err refusal → Right) where
    refused_test : (k f : Bool) → (k ≡ true → at < length file / 8) → cond k (cond f rest (Err (Refusal.Field at))) (Err (Refusal.Kind at)) ≡ Err refusal → Right
    refused_test true true h e = behind (h refl) e
    refused_test true false h e = of_record l (Refusal.Field at) (omega arith) refl e
    refused_test false f h e = of_record l (Refusal.Kind at) (omega arith) refl e

    refused_record : (want : Sort) → record_then file vars want at rest ≡ Err refusal → Right
    unfolding record_then
    refused_record want e =
        let here = ltb at (length file / 8) in
        let fit = is_sort (signature_at file at).sort (sort_for want) in
        refused_test (here && fit) (expression_fields file vars at) (λ t. ltb-true _ _ ((and-eq-true_iff here fit).0 t).0) e

    refused_divisor : at < length file / 8 → (t : Bool) → cond t rest (Err (Refusal.Divisor at)) ≡ Err refusal → Right
    refused_divisor h true e = behind h e
    refused_divisor h false e = of_record l (Refusal.Divisor at) (omega arith) refl e

  pub refused_walk : (levels : ℕ) (want : Sort) (at : ℕ) → at ≤ length file / 8 → walk_of file vars levels want at ≡ Err refusal → Right
  unfolding walk_of divisor_then
  refused_walk zero want at l e =
      refused_record at (Err (Refusal.Limit at)) l (λ m q. of_record l (Refusal.Limit at) (omega arith) refl q) want e
  refused_walk (suc levels) want at l e =
      let part = walk_of file vars levels in
      let operands = operands_of part (signature_at file at).operands (at + 1) in
      refused_record at (divisor_then file want at operands) l
      (λ m.
      refused_divisor at operands l
      (λ m q.
      refused_operands part (length file / 8) refusal Right (λ want i x w. (walk_bound file vars levels want i x w).1) (refused_walk levels)
      (signature_at file at).operands (at + 1) (omega arith) q)
      m (suits file want at))
      want e

-- ---- a divisor, with its fields right and a level left
pub divisor_refused : (file : List ℕ) (vars levels at : ℕ) → at < length file / 8 → (signature_at file at).sort ≡ Some number_sort
    → expression_fields file vars at ≡ true → suits file divisor at ≡ false → walk_of file vars (suc levels) divisor at ≡ Err (Refusal.Divisor at)
unfolding walk_of record_then divisor_then
divisor_refused file vars levels at l s f t = rw (lt-ltb _ _ l, is_sort-one _ _ s, f, t)
