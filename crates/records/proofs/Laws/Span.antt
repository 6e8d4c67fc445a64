-- Laws of the span of an expression.
--     kind_part, form_part                the record of a part is the file's
--     spans_none, spans_one, spans_two    so many records and the operands behind them, by how many operands there are
--     span_opens, span_some               the span by those of the operands; it is a record at least
--     walk_span                           where the walk of an expression ends, by its span
-- Assumes nothing.
use mathlib.Core.Path.{◌≡◌, refl, sym, ap, ◌∙◌}
use mathlib.Core.List.{List}
use Prim.Native.Nat.{ℕ, zero, suc, ◌+◌, ◌*◌, ◌<◌, ◌≤◌}
use native.Mathlib.Nat.{add-zero}
use native.Mathlib.Omega.{arith}
use lib.ListN.{drop}
use lib.Seq.{get_or-drop, drop-drop}
use Rattle.std.specs.declared.result.Result.TheVariants.{Ok, Err}
use Rattle.shapes.specs.Refusal.{and_then}
use Rattle.records.specs.Record.{kind_at}
use Rattle.records.specs.declared.kinds.Sort.{Sort}
use Rattle.records.specs.declared.kinds.Operands.{Operands}
use Rattle.records.specs.declared.kinds.Operands.TheVariants.{Zero, One, Two}
use Rattle.records.specs.Kind.{count, signature_of, signature_at}
use Rattle.records.specs.Form.{form_of, form_at}
use Rattle.records.specs.Walk.{Walked, in_sequence, operands_of, walk_of, spans, span}
use Rattle.records.proofs.Laws.Walk.{walk_opens, walk_deepest, then_ends}

-- ---- the record of a part is the file's
module _ (file : List ℕ) (at : ℕ) where
  pub kind_part : kind_at (drop (8 * at) file) 0 ≡ kind_at file at
  kind_part = get_or-drop (8 * at) file 0 0 ∙ rw add-zero

  pub form_part : form_at (drop (8 * at) file) 0 ≡ form_at file at
  form_part = ap form_of kind_part

-- ---- by the operands
module _ (operand : List ℕ → ℕ) (k : ℕ) (part : List ℕ) where
  pub spans_none : spans operand 0 k part ≡ k
  unfolding spans
  spans_none = refl

  pub spans_one : spans operand 1 k part ≡ k + operand (drop (8 * k) part)
  unfolding spans
  spans_one = refl

  pub spans_two : spans operand 2 k part ≡ let m = k + operand (drop (8 * k) part) in m + operand (drop (8 * m) part)
  unfolding spans
  spans_two = refl

pub span_opens : {levels below : ℕ} (e : levels ≡ suc below) (part : List ℕ) {kind : ℕ} (is : kind_at part 0 ≡ kind)
    → span levels part ≡ spans (span below) (count (signature_of kind).operands) 1 part
unfolding span
span_opens e part is = rw (e, is)

spans_least : (operand : List ℕ → ℕ) (part : List ℕ) (n k : ℕ) → k ≤ spans operand n k part
unfolding spans
spans_least operand part zero k = omega arith
spans_least operand part (suc n) k = let z = spans_least operand part n (k + operand (drop (8 * k) part)) in omega arith

pub span_some : (levels : ℕ) (part : List ℕ) → 0 < span (suc levels) part
span_some levels part =
    omega (arith, span_opens {below = levels} refl part refl, spans_least (span levels) part (count (signature_at part 0).operands) 1)

-- ---- and the walk
module _ (file : List ℕ) (walk : Sort → ℕ → Walked) (operand : List ℕ → ℕ)
    (h : (want : Sort) (at end : ℕ) → walk want at ≡ Ok end → end ≡ at + operand (drop (8 * at) file)) where
  -- behind an operand that k records stand before
  behind : (a : Sort) (at k end : ℕ) → walk a (at + k) ≡ Ok end → end ≡ at + (k + operand (drop (8 * k) (drop (8 * at) file)))
  behind a at k end is =
      let d : 8 * at + 8 * k ≡ 8 * (at + k) = omega arith in
      let z : drop (8 * k) (drop (8 * at) file) ≡ drop (8 * (at + k)) file = drop-drop (8 * k) (8 * at) file ∙ rw d in
      let y = h a (at + k) end is in
      rw z (omega arith)

  operands_spans : (operands : Operands) (at end : ℕ) → operands_of walk operands (at + 1) ≡ Ok end
      → end ≡ at + spans operand (count operands) 1 (drop (8 * at) file)
  unfolding operands_of spans
  operands_spans Zero at end e = let z : at + 1 ≡ end = cc in sym z
  operands_spans (One a) at end e = behind a at 1 end e
  operands_spans (Two a b) at end e =
      let f = then_ends (walk a (at + 1)) e in
      let m = 1 + operand (drop (8 * 1) (drop (8 * at) file)) in
      let x : f.mid ≡ at + m = behind a at 1 f.mid f.first in
      behind b at m end (rw x at f.rest)

pub walk_span : (file : List ℕ) (vars levels : ℕ) (want : Sort) (at end : ℕ) → walk_of file vars levels want at ≡ Ok end → end ≡ at + span levels (drop (8 * at) file)
walk_span file vars zero want at end e = absurd (walk_deepest file vars want at end e)
walk_span file vars (suc levels) want at end e =
    let o = walk_opens file vars levels want at end e in
    rw (span_opens {below = levels} refl (drop (8 * at) file) (kind_part file at))
    (operands_spans file (walk_of file vars levels) (span levels) (walk_span file vars levels) (signature_at file at).operands at end o.operands)
