-- Laws of an expression of a readable file.
--     expression_opens     its own record and its operands, one level further in: for an induction over expressions (C3.6)
--     expression_deepest   with no level left there is none
--     expression_bounded   its interval lies in -1,000,000..1,000,000
--     expression_within    it ends behind its first record and within the file
--     expression_span      it ends behind as many records as its span
--     expression_divisor   where a divisor is asked it is a constant above 0, and its interval holds that alone (C2.15)
-- Assumes nothing.
use mathlib.Core.Path.{◌≡◌, refl, sym, ◌∙◌}
use mathlib.Core.List.{List}
use Prim.Native.Nat.{ℕ, zero, suc, ◌+◌, ◌*◌, ◌/◌, ◌<◌, ◌≤◌}
use native.Mathlib.Omega.{arith}
use lib.IntN.{pos}
use lib.ListN.{length, drop}
use lib.Signed.{◌≤ℤ◌}
use Rattle.std.specs.declared.result.Result.TheVariants.{Ok}
use Rattle.integers.specs.declared.Interval.{Interval}
use Rattle.integers.specs.Inside.{Bounded}
use Rattle.records.specs.Form.Form.{Constant}
use Rattle.records.specs.Record.{kind_at, value_b}
use Rattle.records.specs.declared.kinds.Sort.{Sort}
use Rattle.records.specs.declared.kinds.Operands.{Operands as RecordOperands}
use Rattle.records.specs.declared.kinds.Operands.TheVariants.{Zero, One, Two}
use Rattle.records.specs.Kind.{divisor as divisor_sort, signature_at}
use Rattle.records.specs.Form.{form_at}
use Rattle.records.specs.Walk.{operands_of, walk_of, span}
use Rattle.records.proofs.Laws.Kind.{variable_named, suits_above, signature_by}
use Rattle.records.proofs.Laws.Walk.{walk_opens, walk_suits, walk_deepest, walk_bound, operands_one, operands_two}
use Rattle.records.proofs.Laws.Span.{walk_span}
use Rattle.intervals.specs.Interval.{interval}
use Rattle.intervals.specs.Expression.{Expression, Operands, Opened}
use Rattle.intervals.proofs.Laws.Combine.{leaf_constant}
use Rattle.intervals.proofs.Laws.Interval.{Analysed, analysis_opens, analysis_bounded, analysis_walk}

-- ---- the operands
module _ (file : List ℕ) (vars levels at end : ℕ) where
  operands_of_lem : {i : Interval} → Analysed file levels at end i → (ops : RecordOperands) → (signature_at file at).operands ≡ ops
      → operands_of (walk_of file vars levels) ops (at + 1) ≡ Ok end → Operands file vars levels at end i
  operands_of_lem (Analysed.none m e) ops is s = Operands.none m e
  operands_of_lem (Analysed.one {a} {j} m l) ops is s =
      Operands.one m (record { walks = operands_one (walk_of file vars levels) (at + 1) end a (rw (sym is ∙ m) at s); bounds = l })
  operands_of_lem (Analysed.two {a} {b} {mid} {j} {k} m l r) ops is s =
      let f = operands_two (walk_of file vars levels) (at + 1) end (rw (sym is ∙ m) at s) in
      let y = analysis_walk file vars levels _ (at + 1) f.mid j mid f.first l in
      Operands.two {mid = mid} m (record { walks = rw y f.first; bounds = l }) (record { walks = rw y f.rest; bounds = r })

  pub expression_opens : {want : Sort} {i : Interval} → Expression file vars (suc levels) want at end i → Opened file vars levels want at end i
  expression_opens {want} {i} x =
      let w = walk_opens file vars levels want at end x.walks in
      record {
        here = w.here;
        sort = w.fit;
        variable = λ f. variable_named file vars at f w.right;
        divisor = λ d. suits_above file at (rw d at (walk_suits file vars levels want at end x.walks));
        operands = operands_of_lem (analysis_opens i end file levels at x.bounds).2 (signature_at file at).operands refl w.operands;
      }

module _ (file : List ℕ) (vars : ℕ) (want : Sort) (at end : ℕ) {i : Interval} where
  pub expression_deepest : Expression file vars zero want at end i → ⊥
  expression_deepest x = walk_deepest file vars want at end x.walks

  module _ {levels : ℕ} (x : Expression file vars levels want at end i) where
    pub expression_bounded : Bounded i
    expression_bounded = analysis_bounded i end file levels at x.bounds

    pub expression_within : (at < end) × (end ≤ length file / 8)
    expression_within = walk_bound file vars levels want at end x.walks

    pub expression_span : end ≡ at + span levels (drop (8 * at) file)
    expression_span = walk_span file vars levels want at end x.walks

-- ---- a divisor
pub record Divisor (file : List ℕ) (at : ℕ) (i : Interval) : Type 0 where
  pub constant : form_at file at ≡ Constant
  pub above : pos 1 ≤ℤ value_b file at
  pub alone : i ≡ interval (value_b file at) (value_b file at)

module _ (file : List ℕ) (vars at end : ℕ) where
  constant_alone : {levels : ℕ} {i : Interval} → form_at file at ≡ Constant → Operands file vars levels at end i
      → i ≡ interval (value_b file at) (value_b file at)
  constant_alone c (Operands.none m e) = leaf_constant file at c
  constant_alone c (Operands.one {a} {j} m x) = let z : ◌≡◌ {A = ℕ} 0 1 = (let y = rw (signature_by (kind_at file at) c) at m in cc) in absurd (omega arith)
  constant_alone c (Operands.two {a} {b} {mid} {j} {k} m x y) =
      let z : ◌≡◌ {A = ℕ} 0 1 = (let y = rw (signature_by (kind_at file at) c) at m in cc) in absurd (omega arith)

  pub expression_divisor : (levels : ℕ) {i : Interval} → Expression file vars levels divisor_sort at end i → Divisor file at i
  expression_divisor zero x = absurd (expression_deepest file vars divisor_sort at end x)
  expression_divisor (suc levels) x =
      let o = expression_opens file vars levels at end x in
      let d = o.divisor refl in
      record { constant = d.0; above = d.1; alone = constant_alone d.0 o.operands }
