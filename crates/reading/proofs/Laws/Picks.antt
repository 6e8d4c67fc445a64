-- How many combinations of picks a transition of a readable file has. The scan of refusal 22 is followed from the file's first record to the transition,
-- and on through its guard and its updates: no record of an expression is a transition or a pick, so the scan passes them as they are.
--     size_at_lem                   how many values a pick has
--     choices, combinations     how many values an update may give its variable, and how many combinations of these updates have
--     combinations_most         those of a transition have at most 4,096 (C10.22)
-- Assumes nothing.
use mathlib.Core.Path.{◌≡◌, refl, sym, ◌∙◌}
use mathlib.Core.Bool.{Bool, true, false, cond}
use mathlib.Core.List.{List}
use Prim.Native.Nat.{ℕ, zero, suc, ◌+◌, ◌*◌, ◌/◌, ◌<◌, ◌≤◌}
use native.Mathlib.Nat.{mul_assoc, mul-one, one-mul}
use native.Mathlib.Numerals.{add-one}
use native.Mathlib.Omega.{arith}
use borrow.Author.Tests.{leb-true}
use lib.Dec.{leb}
use lib.ListN.{length}
use Rattle.std.specs.declared.result.Result.TheVariants.{Ok, Err}
use Rattle.shapes.specs.declared.Refusal.{Refusal}
use Rattle.truths.proofs.Laws.Truth.{by-test}
use Rattle.integers.specs.declared.Interval.{Interval}
use Rattle.records.specs.Record.{kind_at, value_b, value_c, kind_is}
use Rattle.states.specs.Number.{size_of}
use Rattle.std.specs.declared.option.Option.TheVariants.{None}
use Rattle.records.specs.declared.kinds.Sort.{Sort}
use Rattle.records.specs.Kind.{number, truth, signature_at}
use Rattle.records.proofs.Laws.Record.{kind_is_lem}
use Rattle.records.proofs.Laws.Kind.{head_none, has_sort}
use Rattle.sections.specs.Section.{is_update}
use Rattle.sections.proofs.Laws.Section.{update_assigns}
use Rattle.shapes.specs.declared.Outline.{Outline}
use Rattle.intervals.specs.Expression.{Expression, Operands}
use Rattle.intervals.proofs.Laws.Expression.{expression_opens, expression_deepest}
use Rattle.reading.specs.declared.product.Combined.{Combined}
use Rattle.reading.specs.States.{size_at}
use Rattle.reading.specs.Picks.{picks_at, past_record, picks_from, picks_of}
use Rattle.reading.specs.Readable.{Update, Updates, Transition}
use Rattle.reading.specs.Read.{read_of}
use Rattle.reading.proofs.Laws.Stage.{Ends, stages_of}

-- ---- the combinations
pub size_at_lem : (file : List ℕ) (at : ℕ) → size_at file at ≡ size_of (value_b file at) (value_c file at)
unfolding size_at
size_at_lem file at = refl

abbrev pub choices : {file : List ℕ} {vars at end : ℕ} → Update file vars at end → ℕ
choices (Update.assigns k x) = 1
choices {file} {at = at} (Update.picks k o l h) = size_at file at

abbrev pub combinations : {file : List ℕ} {vars end at : ℕ} {vs : List ℕ} → Updates file vars end at vs → ℕ
combinations (Updates.none e) = 1
combinations (Updates.more e l x rest apart) = choices x * combinations rest

-- ---- the scan
-- it has come to record `at` with this product, and goes on to the file's end
record Scanned (file : List ℕ) (at product : ℕ) : Type 0 where
  met : Combined
  is : met.product ≡ product
  few : product ≤ 4096
  left : ℕ
  all : at + left ≡ length file / 8
  rest : Ends (picks_from file left at met)

module _ (file : List ℕ) where
  scanned_first : Ends (picks_of file) → Scanned file 0 1
  unfolding picks_of
  scanned_first e = record { met = picks_at 0 1; is = refl; few = omega arith; left = length file / 8; all = omega arith; rest = e }

  module _ (at : ℕ) where
    within_limit : (p : Combined) (left : ℕ) → at + suc left ≡ length file / 8 → (b : Bool) → leb p.product 4096 ≡ b
        → Ends (cond b (picks_from file left (at + 1) p) (Err (Refusal.Picks p.place))) → Scanned file (at + 1) p.product
    within_limit p left all true is e = record { met = p; is = refl; few = leb-true _ _ is; left = left; all = omega arith; rest = e }
    within_limit p left all false is e = let z : ◌≡◌ {A = ℕ} 0 1 = cc e.is in absurd (omega arith)

    past : (p : Combined) (left : ℕ) → at < length file / 8 → at + left ≡ length file / 8 → Ends (picks_from file left at p)
        → Scanned file (at + 1) (past_record file at p).product
    unfolding picks_from
    past p zero l all e = absurd (omega arith)
    past p (suc left) l all e = within_limit (past_record file at p) left all (leb (past_record file at p).product 4096) refl e

    other_kind : (kind : ℕ) → (kind_at file at ≡ kind → ⊥) → kind_is file kind at ≡ false
    other_kind kind n = by-test (kind_is file kind at) (λ b. b ≡ false) (λ e. absurd (n (kind_is_lem file kind at e).1)) (λ e. refl)

    module _ {product : ℕ} (s : Scanned file at product) where
      past_any : at < length file / 8 → Scanned file (at + 1) (past_record file at s.met).product
      past_any l = past s.met s.left l s.all s.rest

      past_transition : kind_is file 0x03 at ≡ true → Scanned file (at + 1) 1
      unfolding past_record
      past_transition k = rw k at (past_any (kind_is_lem file 0x03 at k).0)

      past_pick : kind_is file 0x08 at ≡ true → Scanned file (at + 1) (product * size_at file at)
      unfolding past_record
      past_pick k =
          let b = kind_is_lem file 0x08 at k in
          rw (other_kind 0x03 (λ z. omega arith), k, s.is) at (past_any b.0)

      past_other : at < length file / 8 → (kind_at file at ≡ 0x03 → ⊥) → (kind_at file at ≡ 0x08 → ⊥) → Scanned file (at + 1) product
      unfolding past_record
      past_other l t p = rw (other_kind 0x03 t, other_kind 0x08 p, s.is) at (past_any l)

      past_sorted : at < length file / 8 → ((signature_at file at).sort ≡ None → ⊥) → Scanned file (at + 1) product
      past_sorted l some = past_other l (λ k. some (head_none (omega arith))) (λ k. some (head_none (omega arith)))

  -- some product is met at each record
  scanned_at : Ends (picks_of file) → (i : ℕ) → i ≤ length file / 8 → (product : ℕ) × Scanned file i product
  scanned_at e zero l = (1, scanned_first e)
  scanned_at e (suc i) l = let s = (scanned_at e i (omega arith)).1 in (_, rw add-one at (past_any i s (omega arith)))

  -- ---- through a transition
  module _ (vars : ℕ) where
    module _ (levels at end : ℕ) {product : ℕ} (s : Scanned file (at + 1) product)
        (operand : (want : Sort) (x y : ℕ) (j : Interval) → Expression file vars levels want x y j → Scanned file x product
        → Scanned file y product) where
      past_operands : {i : Interval} → Operands file vars levels at end i → Scanned file end product
      past_operands (Operands.none m e) = rw e s
      past_operands (Operands.one m x) = operand _ (at + 1) end _ x s
      past_operands (Operands.two {mid = mid} m x y) = operand _ mid end _ y (operand _ (at + 1) mid _ x s)

    past_expression : {product : ℕ} (levels : ℕ) (want : Sort) (at end : ℕ) (i : Interval) → Expression file vars levels want at end i
        → Scanned file at product → Scanned file end product
    past_expression zero want at end i x s = absurd (expression_deepest file vars want at end x)
    past_expression (suc levels) want at end i x s =
        let o = expression_opens file vars levels at end x in
        let own = past_sorted at s o.here (has_sort o.sort) in
        past_operands levels at end own (past_expression levels) o.operands

    past_update : {at end product : ℕ} → is_update file at ≡ true → (x : Update file vars at end) → Scanned file at product
        → Scanned file end (product * choices x)
    past_update {at} {end} {product} u (Update.assigns k x) s =
        let b = kind_is_lem file 0x04 at (update_assigns file vars at u k) in
        rw (mul-one product)
        (past_expression 16 number (at + 1) end _ x (past_other at s b.0 (λ z. omega arith) (λ z. omega arith)))
    past_update {at} u (Update.picks k o l h) s = past_pick at s k

    past_updates : {end at product : ℕ} {vs : List ℕ} (h : Updates file vars end at vs) → Scanned file at product
        → Scanned file end (product * combinations h)
    past_updates {product = product} (Updates.none e) s = rw (mul-one product) s
    past_updates {product = product} (Updates.more e l x rest apart) s =
        rw (← mul_assoc product (choices x) (combinations rest)) (past_updates rest (past_update e x s))

module _ (file : List ℕ) (o : Outline) (r : read_of file ≡ Ok o) where
  pub combinations_most : {t : ℕ} (x : Transition file o t) → combinations x.updates ≤ 4096
  combinations_most x =
      let here = (kind_is_lem file 0x03 x.place x.named).0 in
      let s = (scanned_at file (stages_of file o r).picks x.place (omega arith)).1 in
      let head = past_transition file x.place s x.named in
      let guard = past_expression file o.vars 16 truth (x.place + 1) x.behind x.interval x.guard head in
      omega (arith, (past_updates file o.vars x.updates guard).few, one-mul (combinations x.updates))
