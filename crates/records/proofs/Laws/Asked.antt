-- Laws of the walk of what is asked for by number.
--     asked_number, asked_truth, asked_divisor     of 1, 2 and 3 it is the walk of the sort, so that what is known of that is known of it
--     asked_other                                  no record stands for a number above 3
--     asked_bare                                   of 0, where it ends: the record is there, begins no expression, and has right fields
-- Assumes nothing.
use mathlib.Core.Path.{◌≡◌, refl}
use mathlib.Core.Bool.{Bool, true, false, cond, ◌&&◌, and-eq-true_iff}
use mathlib.Core.List.{List}
use Prim.Native.Nat.{ℕ, ◌+◌, ◌/◌, ◌<◌}
use native.Mathlib.Omega.{arith}
use borrow.Author.Tests.{ltb-true, ne_eqb}
use lib.ListN.{length}
use lib.Dec.{ltb, eqb}
use Rattle.std.specs.Prelude.{is_none}
use Rattle.std.specs.declared.result.Result.TheVariants.{Ok, Err}
use Rattle.shapes.specs.declared.Refusal.{Refusal}
use Rattle.records.specs.Kind.{number, truth, divisor, signature_at}
use Rattle.records.specs.Walk.{expression_fields, walk_of}
use Rattle.records.specs.Asked.{bare_of, asked_of}

-- what is known of a record that begins no expression, where it was asked for
pub record Bare (file : List ℕ) (vars levels at end : ℕ) : Type 0 where
  pub here : at < length file / 8
  pub none : is_none (signature_at file at).sort ≡ true
  pub right : expression_fields file vars at ≡ true
  pub left : eqb levels 0 ≡ false
  pub behind : end ≡ at + 1

module _ (file : List ℕ) (vars levels at : ℕ) where
  pub asked_number : asked_of file vars levels 1 at ≡ walk_of file vars levels number at
  unfolding asked_of
  asked_number = refl

  pub asked_truth : asked_of file vars levels 2 at ≡ walk_of file vars levels truth at
  unfolding asked_of
  asked_truth = refl

  pub asked_divisor : asked_of file vars levels 3 at ≡ walk_of file vars levels divisor at
  unfolding asked_of
  asked_divisor = refl

  pub asked_other : (want : ℕ) → 3 < want → asked_of file vars levels want at ≡ Err (Refusal.Kind at)
  unfolding asked_of
  asked_other want l =
      simp (ne_eqb want 0 (λ e. omega arith), ne_eqb want 1 (λ e. omega arith), ne_eqb want 2 (λ e. omega arith), ne_eqb want 3 (λ e. omega arith))

  opened : (k f l : Bool) (end : ℕ)
      → cond k (cond f (cond l (Err (Refusal.Limit at)) (Ok (at + 1))) (Err (Refusal.Field at))) (Err (Refusal.Kind at)) ≡ Ok end
      → (k ≡ true) × ((f ≡ true) × ((l ≡ false) × (end ≡ at + 1)))
  opened true true false end e = (refl, (refl, (refl, cc e)))
  opened true true true end e = absurd (cc e)
  opened true false l end e = absurd (cc e)
  opened false f l end e = absurd (cc e)

  pub asked_bare : (end : ℕ) → asked_of file vars levels 0 at ≡ Ok end → Bare file vars levels at end
  unfolding asked_of bare_of
  asked_bare end e =
      let here = ltb at (length file / 8) in
      let none = is_none (signature_at file at).sort in
      let p = opened (here && none) (expression_fields file vars at) (eqb levels 0) end e in
      let b = (and-eq-true_iff here none).0 p.0 in
      record { here = ltb-true _ _ b.0; none = b.1; right = p.1.0; left = p.1.1.0; behind = p.1.1.1 }
