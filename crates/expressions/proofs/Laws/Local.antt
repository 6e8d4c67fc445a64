-- What an expression is worth in a state depends on its own records alone: where they are copied, the copy is worth the same.
--     number_local, truth_local     a number and a truth (C2.13)
--     holds_local                   whether a truth of a file holds (C2.13)
-- Assumes nothing.
use mathlib.Core.Path.{◌≡◌, refl, sym, ap, ◌∙◌}
use mathlib.Core.List.{List}
use Prim.Native.Nat.{ℕ, zero, suc, ◌+◌}
use native.Mathlib.Omega.{arith}
use lib.IntN.{ℤ}
use Rattle.std.specs.declared.option.Option.TheVariants.{Some}
use Rattle.std.specs.declared.result.Result.TheVariants.{Ok}
use Rattle.records.specs.Form.{Form}
use Rattle.records.specs.Record.{kind_at}
use Rattle.records.specs.declared.kinds.Sort.{Sort}
use Rattle.records.specs.declared.kinds.Operands.TheVariants.{One, Two}
use Rattle.records.specs.Kind.{row, sort_for, signature_at, number as number_sort, truth as truth_sort}
use Rattle.records.specs.Form.{form_of, form_at, row_of}
use Rattle.records.specs.Walk.{walk_of}
use Rattle.records.proofs.Laws.Kind.{number_forms, truth_forms, signature_by}
use Rattle.records.proofs.Laws.Walk.{walk_deepest}
use Rattle.records.proofs.Laws.Span.{kind_part, form_part, walk_span}
use Rattle.records.proofs.Laws.Local.{kind_same, a_same, b_same, Copy, TwoCopies, CopiedRecord, copy_opens, walk_local}
use Rattle.expressions.specs.Expression.{part_at, first_operand, second_operand, number, truth, holds_of}
use Rattle.expressions.proofs.Laws.Expression.{number_constant, number_variable, number_arithmetic, number_indicator, number_division}
use Rattle.expressions.proofs.Laws.Expression.{truth_literal, truth_negation, truth_connective, truth_comparison}
use Rattle.expressions.proofs.Laws.Sound.{variable_part, value_part, first_part, second_part}

-- the second operand begins where the first ends
second_at : (file : List ℕ) (vars levels : ℕ) (want : Sort) (at k : ℕ) → walk_of file vars levels want (at + 1) ≡ Ok (at + 1 + k)
    → second_operand levels (part_at file at) ≡ part_at file (at + (1 + k))
second_at file vars levels want at k w =
    let s = walk_span file vars levels want (at + 1) (at + 1 + k) w in
    second_part file at levels (at + (1 + k)) (omega arith)

module _ (file file' : List ℕ) (vars : ℕ) (state : List ℤ) where
  -- two parts are worth the same, as numbers or as truths, by their sort
  abbrev Alike : ℕ → Sort → List ℕ → List ℕ → Type 0
  Alike levels want part part' =
      (sort_for want ≡ number_sort → number levels part state ≡ number levels part' state)
      × (sort_for want ≡ truth_sort → truth levels part state ≡ truth levels part' state)

  module _ (levels : ℕ) (want : Sort) (at at' n : ℕ) (o : CopiedRecord file file' vars levels want at at' n)
      (operand : (want : Sort) (x x' k : ℕ) → Copy file file' vars levels want x x' k → Alike levels want (part_at file x) (part_at file' x')) where
    abbrev part : List ℕ
    part = part_at file at

    abbrev part' : List ℕ
    part' = part_at file' at'

    abbrev here : suc levels ≡ suc levels
    here = refl

    kind_alike : kind_at part 0 ≡ kind_at part' 0
    kind_alike = kind_part file at ∙ kind_same file file' at at' o.byte ∙ sym (kind_part file' at')

    module _ {f : Form} (is : form_at file at ≡ f) where
      signature : signature_at file at ≡ row_of f
      signature = signature_by (kind_at file at) is

      form : form_at part 0 ≡ f
      form = form_part file at ∙ is

      form' : form_at part' 0 ≡ f
      form' = sym (ap form_of kind_alike) ∙ form

      module _ {own a : Sort} where
        one_alike : row_of f ≡ row own (One a) → Alike levels a (first_operand part) (first_operand part')
        one_alike r = rw (first_part file at, first_part file' at') (operand _ _ _ _ (o.one {a = a} (rw (signature, r) refl)))

        two_alike : {b : Sort} → row_of f ≡ row own (Two a b)
            → Alike levels a (first_operand part) (first_operand part') × Alike levels b (second_operand levels part) (second_operand levels part')
        two_alike {b} r =
            let t : TwoCopies file file' vars levels a b at at' n = o.two {a = a} {b = b} (rw (signature, r) refl) in
            let s = second_at file vars levels _ at t.left t.first.walks in
            let s' = second_at file' vars levels _ at' t.left (walk_local file file' vars levels _ (at + 1) (at' + 1) t.left t.first) in
            (rw (first_part file at, first_part file' at') (operand _ _ _ _ t.first), rw (s, s') (operand _ _ _ _ t.second))

      -- by a law of parts of this form
      both : {A : Type 0} {worth is_worth : List ℕ → A} → ((p : List ℕ) → form_at p 0 ≡ f → worth p ≡ is_worth p) → is_worth part ≡ is_worth part'
          → worth part ≡ worth part'
      both law e = law part form ∙ e ∙ sym (law part' form')

    abbrev Numbers : Form → Type 0
    Numbers f = form_at file at ≡ f → number (suc levels) part state ≡ number (suc levels) part' state

    abbrev Truths : Form → Type 0
    Truths f = form_at file at ≡ f → truth (suc levels) part state ≡ truth (suc levels) part' state

    numbers_alike : (signature_at file at).sort ≡ Some number_sort → Numbers (form_at file at)
    numbers_alike =
        number_forms Numbers (kind_at file at)
        (λ is. both is (λ p. number_constant here p state) (value_part file at ∙ b_same file file' at at' o.byte ∙ sym (value_part file' at')))
        (λ is. both is (λ p. number_variable here p state) (rw (variable_part file at, variable_part file' at', a_same file file' at at' o.byte)))
        (λ is. let t = two_alike is refl in both is (λ p. number_arithmetic here p state) (rw (kind_alike, t.0.0 refl, t.1.0 refl)))
        (λ is. both is (λ p. number_indicator here p state) (rw ((one_alike is refl).1 refl)))
        (λ is. let t = two_alike is refl in both is (λ p. number_division here p state) (rw (kind_alike, t.0.0 refl, t.1.0 refl)))

    truths_alike : (signature_at file at).sort ≡ Some truth_sort → Truths (form_at file at)
    truths_alike =
        truth_forms Truths (kind_at file at)
        (λ is. both is (λ p. truth_literal here p state) (rw kind_alike))
        (λ is. both is (λ p. truth_negation here p state) (rw ((one_alike is refl).1 refl)))
        (λ is. let t = two_alike is refl in both is (λ p. truth_connective here p state) (rw (kind_alike, t.0.1 refl, t.1.1 refl)))
        (λ is. let t = two_alike is refl in both is (λ p. truth_comparison here p state) (rw (kind_alike, t.0.0 refl, t.1.0 refl)))

    opened_alike : Alike (suc levels) want part part'
    opened_alike = (λ w. numbers_alike (o.sort ∙ ap Some w) refl, λ w. truths_alike (o.sort ∙ ap Some w) refl)

  worth_local : (levels : ℕ) (want : Sort) (at at' n : ℕ) → Copy file file' vars levels want at at' n → Alike levels want (part_at file at) (part_at file' at')
  worth_local zero want at at' n c = absurd (walk_deepest file vars want at (at + n) c.walks)
  worth_local (suc levels) want at at' n c =
      opened_alike levels want at at' n (copy_opens file file' vars levels want at at' n c) (worth_local levels)

  module _ (at at' n : ℕ) where
    pub number_local : (levels : ℕ) → Copy file file' vars levels number_sort at at' n
        → number levels (part_at file at) state ≡ number levels (part_at file' at') state
    number_local levels c = (worth_local levels number_sort at at' n c).0 refl

    pub truth_local : (levels : ℕ) → Copy file file' vars levels truth_sort at at' n
        → truth levels (part_at file at) state ≡ truth levels (part_at file' at') state
    truth_local levels c = (worth_local levels truth_sort at at' n c).1 refl

    pub holds_local : Copy file file' vars 16 truth_sort at at' n → holds_of file at state ≡ holds_of file' at' state
    unfolding holds_of
    holds_local c = truth_local 16 c
