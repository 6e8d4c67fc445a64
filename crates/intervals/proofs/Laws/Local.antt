-- An expression's interval depends on its own records and on those of the variables alone: where they are copied, the copy has the same one.
--     analysis_local       the copy's interval, and where it ends
--     expression_local     so the copy is an expression of its file
-- Assumes nothing.
use mathlib.Core.Path.{◌≡◌, refl, sym, ap}
use mathlib.Core.Bool.{cond}
use mathlib.Core.List.{List}
use Prim.Native.Nat.{ℕ, zero, suc, ◌+◌, ◌-◌, ◌/◌, ◌<◌}
use native.Mathlib.Nat.{zero-add}
use native.Mathlib.Omega.{arith}
use borrow.Author.Tests.{lt-ltb, eqb-true}
use lib.ListN.{length}
use lib.Dec.{eqb}
use Rattle.std.specs.declared.result.Result.TheVariants.{Ok}
use Rattle.integers.specs.declared.Interval.{Interval}
use Rattle.integers.specs.Inside.{Bounded}
use Rattle.truths.proofs.Laws.Truth.{by-test}
use Rattle.integers.proofs.Laws.Interval.{bounded_test}
use Rattle.records.specs.Form.Form.{Variable}
use Rattle.records.specs.Record.{kind_at, field_a, value_b, value_c}
use Rattle.records.specs.declared.kinds.Sort.{Sort}
use Rattle.records.specs.declared.kinds.Operands.TheVariants.{Zero, One, Two}
use Rattle.records.specs.Kind.{signature_at}
use Rattle.records.specs.Form.{form_at}
use Rattle.records.proofs.Laws.Kind.{variable_form, variable_named}
use Rattle.records.proofs.Laws.Local.{records_of, SameRecord, same_record, kind_same, a_same, b_same, c_same, Copy, CopiedRecord, copy_opens, walk_local}
use Rattle.intervals.specs.Interval.{within, interval, unit, leaf_of, join_of, own_of, by_operands, analysis_of}
use Rattle.intervals.specs.Expression.{Expression}
use Rattle.intervals.proofs.Laws.Interval.{Analysed, analysis_opens, analysis_deepest, analysis_walk}

-- ---- an analysis from its parts
module _ (file : List ℕ) (levels at : ℕ) {i : Interval} (l : at < length file / 8) (b : Bounded i) where
  none_closes : (signature_at file at).operands ≡ Zero → leaf_of file at ≡ i → analysis_of file (suc levels) at ≡ Ok (within i (at + 1))
  unfolding analysis_of by_operands own_of
  none_closes m is = rw (lt-ltb _ _ l, m, is, bounded_test b)

  one_closes : {a : Sort} → (signature_at file at).operands ≡ One a → unit ≡ i → (j : Interval) (end : ℕ) → analysis_of file levels (at + 1) ≡ Ok (within j end)
      → analysis_of file (suc levels) at ≡ Ok (within i end)
  unfolding analysis_of by_operands own_of
  one_closes m is j end q = rw (lt-ltb _ _ l, m, q, is, bounded_test b)

  two_closes : {a c : Sort} → (signature_at file at).operands ≡ Two a c → (j k : Interval) → join_of (kind_at file at) j k ≡ i → (mid end : ℕ)
      → analysis_of file levels (at + 1) ≡ Ok (within j mid) → analysis_of file levels mid ≡ Ok (within k end) → analysis_of file (suc levels) at ≡ Ok (within i end)
  unfolding analysis_of by_operands own_of
  two_closes m j k is mid end p q = rw (lt-ltb _ _ l, m, p, q, is, bounded_test b)

-- ---- the variables' records are the same
module _ (file file' : List ℕ) (vars : ℕ) (ranges : records_of file 0 vars ≡ records_of file' 0 vars) where
  range_same : (v : ℕ) → v < vars → SameRecord file file' v v
  range_same v l = rw zero-add at (same_record file file' 0 0 vars ranges v l)

  leaf_same : (at at' : ℕ) → SameRecord file file' at at' → (form_at file at ≡ Variable → field_a file at < vars) → leaf_of file at ≡ leaf_of file' at'
  unfolding leaf_of
  leaf_same at at' byte named =
      let v = field_a file at in
      let range : List ℕ → Interval = λ f. interval (value_b f v) (value_c f v) in
      rw (← kind_same file file' at at' byte, ← a_same file file' at at' byte, ← b_same file file' at at' byte)
      (ap (cond (eqb (kind_at file at) 0x10) _)
      (by-test (eqb (kind_at file at) 0x11) (λ t. cond t (range file) unit ≡ cond t (range file') unit)
      (λ e. let same = range_same v (named (variable_form (eqb-true _ _ e))) in rw (b_same file file' v v same, c_same file file' v v same)) (λ e. refl)))

  module _ (levels : ℕ) (want : Sort) (at at' n : ℕ) (o : CopiedRecord file file' vars levels want at at' n)
      (operand : (want : Sort) (x x' k : ℕ) (j : Interval) → Copy file file' vars levels want x x' k → analysis_of file levels x ≡ Ok (within j (x + k))
      → analysis_of file' levels x' ≡ Ok (within j (x' + k))) where
    kind : kind_at file at ≡ kind_at file' at'
    kind = kind_same file file' at at' o.byte

    analysed_local : {i : Interval} → Bounded i → Analysed file levels at (at + n) i → analysis_of file' (suc levels) at' ≡ Ok (within i (at' + n))
    analysed_local b (Analysed.none m e) =
        let z : at' + n ≡ at' + 1 = omega arith in
        let leaf = leaf_same at at' o.byte (λ f. variable_named file vars at f o.fields) in
        rw z (none_closes file' levels at' o.there b (rw (← kind) m) (sym leaf))
    analysed_local b (Analysed.one {a} {j} m l) =
        let some = o.some in
        let y : at + n ≡ at + 1 + (n - 1) = omega arith in
        let z : at' + n ≡ at' + 1 + (n - 1) = omega arith in
        let m' : (signature_at file' at').operands ≡ One a = rw (← kind) m in
        rw z (one_closes file' levels at' o.there b m' refl j _ (operand _ _ _ _ j (o.one m) (rw y at l)))
    analysed_local b (Analysed.two {a} {b = c} {mid} {j} {k} m l r) =
        let m' : (signature_at file' at').operands ≡ Two a c = rw (← kind) m in
        let t = o.two m in
        let p = t.left in
        let x = analysis_walk file vars levels _ (at + 1) (at + 1 + p) j mid t.first.walks l in
        let mid_is : mid ≡ at + (1 + p) = omega arith in
        let y : at + n ≡ at + (1 + p) + t.right = omega arith in
        let z : at' + n ≡ at' + (1 + p) + t.right = omega arith in
        let w : at' + 1 + p ≡ at' + (1 + p) = omega arith in
        rw z
        (two_closes file' levels at' o.there b m' j k (rw (← kind)) (at' + (1 + p)) _
        (rw w at (operand _ _ _ _ j t.first (rw x at l))) (operand _ _ _ _ k t.second (rw (mid_is, y) at r)))

  pub analysis_local : (levels : ℕ) (want : Sort) (at at' n : ℕ) (i : Interval) → Copy file file' vars levels want at at' n → analysis_of file levels at ≡ Ok (within i (at + n))
      → analysis_of file' levels at' ≡ Ok (within i (at' + n))
  analysis_local zero want at at' n i c q = absurd (analysis_deepest i (at + n) file at q)
  analysis_local (suc levels) want at at' n i c q =
      let a = analysis_opens i (at + n) file levels at q in
      analysed_local levels want at at' n (copy_opens file file' vars levels want at at' n c) (analysis_local levels) a.1 a.2

  pub expression_local : (levels : ℕ) (want : Sort) (at at' n : ℕ) (i : Interval) → records_of file at n ≡ records_of file' at' n
      → Expression file vars levels want at (at + n) i → Expression file' vars levels want at' (at' + n) i
  expression_local levels want at at' n i same x =
      let c : Copy file file' vars levels want at at' n = record { walks = x.walks; same = same } in
      record { walks = walk_local file file' vars levels want at at' n c; bounds = analysis_local levels want at at' n i c x.bounds }
