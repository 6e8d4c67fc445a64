-- Laws of the analysis of an expression.
--     ends_at            an answer, by where it ends
--     analysis_opens     where an interval that is answered comes from
--     analysis_bounded   it lies in -1,000,000..1,000,000 (C3.4)
--     analysis_span      the end that is answered is where the expression ends
--     analysis_walk      so it is where the walk ends
--     analysis_ahead, analysis_within     it lies behind the first record and within the file
-- Assumes nothing.
use mathlib.Core.Path.{◌≡◌, refl, ap, subst, ◌∙◌}
use mathlib.Core.Bool.{Bool, true, false, cond}
use mathlib.Core.List.{List}
use Prim.Native.Nat.{ℕ, zero, suc, ◌+◌, ◌*◌, ◌/◌, ◌<◌, ◌≤◌}
use native.Mathlib.Omega.{arith}
use lib.ListN.{length, drop}
use lib.Seq.{drop-drop}
use borrow.Author.Tests.{ltb-true}
use lib.Dec.{ltb}
use Rattle.std.specs.declared.result.Result.{Result}
use Rattle.std.specs.declared.result.Result.TheVariants.{Ok, Err}
use Rattle.shapes.specs.declared.Refusal.{Refusal}
use Rattle.integers.specs.declared.Interval.{Interval}
use Rattle.integers.specs.Interval.{in_bounds}
use Rattle.integers.specs.Inside.{Bounded}
use Rattle.integers.proofs.Laws.Interval.{bounded}
use Rattle.records.specs.Record.{kind_at}
use Rattle.records.specs.declared.kinds.Sort.{Sort}
use Rattle.records.specs.declared.kinds.Operands.{Operands}
use Rattle.records.specs.declared.kinds.Operands.TheVariants.{Zero, One, Two}
use Rattle.records.specs.Kind.{count, signature_at}
use Rattle.records.specs.Walk.{walk_of, spans, span}
use Rattle.records.proofs.Laws.Walk.{then_ends}
use Rattle.records.proofs.Laws.Span.{kind_part, spans_none, spans_one, spans_two, span_opens, span_some, walk_span}
use Rattle.intervals.specs.declared.Analysis.{Analysis}
use Rattle.intervals.specs.Interval.{within, unit, leaf_of, join_of, own_of, by_operands, analysis_of}

-- where an interval comes from: the record itself, or its operands, one level further in
pub data Analysed (file : List ℕ) (levels at end : ℕ) : Interval → Type 0 where
  none : (signature_at file at).operands ≡ Zero → end ≡ at + 1 → Analysed file levels at end (leaf_of file at)
  one : {a : Sort} {j : Interval} → (signature_at file at).operands ≡ One a → analysis_of file levels (at + 1) ≡ Ok (within j end) → Analysed file levels at end unit
  two : {a b : Sort} {mid : ℕ} {j k : Interval} → (signature_at file at).operands ≡ Two a b → analysis_of file levels (at + 1) ≡ Ok (within j mid)
      → analysis_of file levels mid ≡ Ok (within k end)
      → Analysed file levels at end (join_of (kind_at file at) j k)

-- an answer whose end is e
pub ends_at : {x : Result Analysis Refusal} {a : Analysis} {e : ℕ} → x ≡ Ok a → a.end ≡ e → x ≡ Ok (within a.interval e)
ends_at {a = a} q z = q ∙ ap (λ (end : ℕ). Ok (within a.interval end)) z

module _ (j : Interval) (e : ℕ) where
  own_opens : (i : Interval) (end at : ℕ) → own_of i end at ≡ Ok (within j e) → (i ≡ j) × (end ≡ e) × Bounded j
  unfolding own_of
  own_opens i end at w = by_bounds (in_bounds i) refl w
    where
      by_bounds : (b : Bool) → in_bounds i ≡ b → cond b (Ok (within i end)) (Err (Refusal.Interval at)) ≡ Ok (within j e)
          → (i ≡ j) × (end ≡ e) × Bounded j
      by_bounds true t q =
          let same : within i end ≡ within j e = cc in
          let z = ap (λ (a : Analysis). a.interval) same in
          (z, ap (λ (a : Analysis). a.end) same, subst Bounded z (bounded t))
      by_bounds false t q = let z : ◌≡◌ {A = ℕ} 0 1 = cc in absurd (omega arith)

  module _ (file : List ℕ) (levels at : ℕ) where
    abbrev operands : Operands
    operands = (signature_at file at).operands

    abbrev operand : ℕ → Result Analysis Refusal
    operand = analysis_of file levels

    abbrev OwnWithin : Type 0
    OwnWithin = Bounded j × Analysed file levels at e j

    by_opens : (ops : Operands) → operands ≡ ops → by_operands file at operand ops ≡ Ok (within j e) → OwnWithin
    unfolding by_operands
    by_opens Zero n q =
        let o = own_opens (leaf_of file at) (at + 1) at q in
        let ends = o.1 in
        (o.2, subst (Analysed file levels at e) o.0 (none n (omega arith)))
    by_opens (One a) n q =
        let f = then_ends (operand (at + 1)) q in
        let o = own_opens unit f.mid.end at f.rest in
        (o.2, subst (Analysed file levels at e) o.0 (one n (ends_at f.first o.1)))
    by_opens (Two a b) n q =
        let f = then_ends (operand (at + 1)) q in
        let g = then_ends (operand f.mid.end) f.rest in
        let o = own_opens (join_of (kind_at file at) f.mid.interval g.mid.interval) g.mid.end at g.rest in
        (o.2, subst (Analysed file levels at e) o.0 (two n f.first (ends_at g.first o.1)))

    pub analysis_opens : analysis_of file (suc levels) at ≡ Ok (within j e) → (at < length file / 8) × Bounded j × Analysed file levels at e j
    unfolding analysis_of
    analysis_opens q = by_place (ltb at (length file / 8)) refl q
      where
        by_place : (b : Bool) → ltb at (length file / 8) ≡ b → cond b (by_operands file at operand operands) (Err (Refusal.Interval at)) ≡ Ok (within j e)
            → (at < length file / 8) × Bounded j × Analysed file levels at e j
        by_place true l w = let o = by_opens operands refl w in (ltb-true _ _ l, o.0, o.1)
        by_place false l w = let z : ◌≡◌ {A = ℕ} 0 1 = cc in absurd (omega arith)

  pub analysis_deepest : (file : List ℕ) (at : ℕ) → analysis_of file zero at ≡ Ok (within j e) → ⊥
  unfolding analysis_of
  analysis_deepest file at q = let z : ◌≡◌ {A = ℕ} 0 1 = cc in omega arith

  pub analysis_bounded : (file : List ℕ) (levels at : ℕ) → analysis_of file levels at ≡ Ok (within j e) → Bounded j
  analysis_bounded file zero at q = absurd (analysis_deepest file at q)
  analysis_bounded file (suc levels) at q = (analysis_opens file levels at q).1

-- ---- where an expression ends
module _ (file : List ℕ) (levels at end : ℕ)
    (ih : (x y : ℕ) (i : Interval) → analysis_of file levels x ≡ Ok (within i y) → y ≡ x + span levels (drop (8 * x) file)) where
  -- the operand k records behind `at`
  part_from : (k : ℕ) → drop (8 * k) (drop (8 * at) file) ≡ drop (8 * (at + k)) file
  part_from k = let d : 8 * at + 8 * k ≡ 8 * (at + k) = omega arith in drop-drop (8 * k) (8 * at) file ∙ rw d

  analysed_span : {i : Interval} → Analysed file levels at end i → end ≡ at + spans (span levels) (count (signature_at file at).operands) 1 (drop (8 * at) file)
  analysed_span (none n e) = rw (n, spans_none) e
  analysed_span (one {j} n l) = rw (n, spans_one, part_from 1) (let z = ih (at + 1) end j l in omega arith)
  analysed_span (two {mid} {j} {k} n l r) =
      let y = ih (at + 1) mid j l in
      let z = ih mid end k r in
      let m : mid ≡ at + (1 + span levels (drop (8 * (at + 1)) file)) = omega arith in
      rw (n, spans_two, part_from 1, part_from (1 + span levels (drop (8 * (at + 1)) file)), ← m) (omega arith)

pub analysis_span : (file : List ℕ) (levels at end : ℕ) (i : Interval) → analysis_of file levels at ≡ Ok (within i end) → end ≡ at + span levels (drop (8 * at) file)
analysis_span file zero at end i q = absurd (analysis_deepest i end file at q)
analysis_span file (suc levels) at end i q =
    rw (span_opens {below = levels} refl (drop (8 * at) file) (kind_part file at))
    (analysed_span file levels at end (analysis_span file levels) (analysis_opens i end file levels at q).2)

pub analysis_walk : (file : List ℕ) (vars levels : ℕ) (want : Sort) (at end : ℕ) (j : Interval) (e : ℕ)
    → walk_of file vars levels want at ≡ Ok end → analysis_of file levels at ≡ Ok (within j e) → e ≡ end
analysis_walk file vars levels want at end j e w q =
    let a = walk_span file vars levels want at end w in
    let b = analysis_span file levels at e j q in
    omega arith

module _ (file : List ℕ) where
  abbrev EndsWithin : ℕ → Type 0
  EndsWithin levels = (at end : ℕ) (i : Interval) → analysis_of file levels at ≡ Ok (within i end) → end ≤ length file / 8

  analysed_within : {levels at end : ℕ} {i : Interval} → at < length file / 8 → EndsWithin levels → Analysed file levels at end i → end ≤ length file / 8
  analysed_within l operand (none n e) = omega arith
  analysed_within {at = at} {end} l operand (one {j} n q) = operand (at + 1) end j q
  analysed_within {end = end} l operand (two {mid} {j} {k} n p q) = operand mid end k q

  pub analysis_within : (levels : ℕ) → EndsWithin levels
  analysis_within zero at end i q = absurd (analysis_deepest i end file at q)
  analysis_within (suc levels) at end i q =
      let o = analysis_opens i end file levels at q in
      analysed_within o.0 (analysis_within levels) o.2

-- an expression has a record
pub analysis_ahead : (file : List ℕ) (levels at : ℕ) (j : Interval) (e : ℕ) → analysis_of file levels at ≡ Ok (within j e) → at < e
analysis_ahead file zero at j e q = absurd (analysis_deepest j e file at q)
analysis_ahead file (suc levels) at j e q = omega (arith, analysis_span file (suc levels) at e j q, span_some levels (drop (8 * at) file))
