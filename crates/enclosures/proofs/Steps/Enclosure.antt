-- The evaluators on a box, at one record: the answers for its operands make the answer for the whole. What they ask is asked at the box's low ends, taken
-- as a state. Assumes nothing.
use mathlib.Core.Path.{◌≡◌, refl, ap, ◌∙◌}
use mathlib.Core.List.{List}
use mathlib.Core.Bool.{true}
use Prim.Native.Nat.{ℕ, suc, ◌+◌, ◌-◌}
use lib.ListN.{get_or}
use lib.IntN.{pos}
use Rattle.records.specs.Form.{Form}
use Rattle.records.specs.Form.Form.{Constant, Variable, Arithmetic, Indicator, Division, Literal, Negation, Connective, Comparison}
use Rattle.records.specs.Record.{kind_at, field_a, value_b}
use Rattle.records.specs.declared.kinds.Sort.{Sort}
use Rattle.records.specs.Form.{form_of, form_at}
use Rattle.expressions.specs.Expression.{part_at}
use Rattle.expressions.proofs.Laws.Expression.{first_is}
use Rattle.expressions.proofs.Laws.Operand.{Two}
use Rattle.boxes.specs.declared.Box.{Box}
use Rattle.domains.specs.declared.seen.Seen.{Seen}
use Rattle.domains.specs.declared.extents.Extent.{Extent}
use Rattle.domains.specs.Seen.{opposite_of, connect_in, decides_of, literal_in}
use Rattle.domains.specs.Extent.{extent_of, combine_in, divide_in, indicator_in, compare_in}
use Rattle.enclosures.specs.Enclosure.{number_in_by, truth_in_by, number_in, truth_in}
use Rattle.domains.proofs.Laws.Seen.{decided}
use Rattle.enclosures.proofs.Laws.Enclosure.{number_in_opens, truth_in_opens}

-- ---- the answers
module _ {levels : ℕ} (level : levels ≡ suc (levels - 1)) (part : List ℕ) (b : Box) where
  pub constant_in : form_at part 0 ≡ Constant → extent_of (value_b part 0) (value_b part 0) 12 ≡ number_in levels part b
  unfolding number_in_by
  constant_in is = rw (number_in_opens level part b is)

  pub variable_in : form_at part 0 ≡ Variable
      → extent_of (get_or b.low (field_a part 0) (pos 0)) (get_or b.high (field_a part 0) (pos 0)) (field_a part 0) ≡ number_in levels part b
  unfolding number_in_by
  variable_in is = rw (number_in_opens level part b is)

  pub literal_in_lem : {kind : ℕ} → kind_at part 0 ≡ kind → form_of kind ≡ Literal → literal_in kind ≡ truth_in levels part b
  unfolding truth_in_by
  literal_in_lem is f = rw (← is, truth_in_opens level part b (ap form_of is ∙ f))

  module _ {p : List ℕ} (e : p ≡ part_at part 1) {x : Seen} (a : x ≡ truth_in (levels - 1) p b) where
    pub indicator_in_lem : form_at part 0 ≡ Indicator → indicator_in x ≡ number_in levels part b
    unfolding number_in_by
    indicator_in_lem is = rw (a, e, ← first_is part, number_in_opens level part b is)

    pub negation_in : form_at part 0 ≡ Negation → opposite_of x ≡ truth_in levels part b
    unfolding truth_in_by
    negation_in is = rw (a, e, ← first_is part, truth_in_opens level part b is)

module _ {levels : ℕ} {i j : Sort} {f : Form} {part table : List ℕ} {at : ℕ} {p : List ℕ} (b : Box) (t : Two levels i j f part table at p b.low) where
  module _ {q : List ℕ} (d : q ≡ part_at part (1 + get_or table (at + 1) 0)) where
    module _ {x y : Extent} (u : x ≡ number_in (levels - 1) p b) (v : y ≡ number_in (levels - 1) q b) where
      pub arithmetic_in : f ≡ Arithmetic → combine_in (kind_at part 0) x y ≡ number_in levels part b
      unfolding number_in_by
      arithmetic_in k = rw (v, t.second d, u, t.first, number_in_opens t.level part b (t.is ∙ k))

      pub comparison_in : f ≡ Comparison → compare_in (kind_at part 0) x y ≡ truth_in levels part b
      unfolding truth_in_by
      comparison_in k = rw (v, t.second d, u, t.first, truth_in_opens t.level part b (t.is ∙ k))

    pub division_in : {x : Extent} → x ≡ number_in (levels - 1) p b → f ≡ Division → divide_in (kind_at part 0) x (value_b q 0) ≡ number_in levels part b
    unfolding number_in_by
    division_in u k = rw (t.second d, u, t.first, number_in_opens t.level part b (t.is ∙ k))

    pub connective_in : {x y : Seen} → x ≡ truth_in (levels - 1) p b → y ≡ truth_in (levels - 1) q b → f ≡ Connective
        → connect_in (kind_at part 0) x y ≡ truth_in levels part b
    unfolding truth_in_by
    connective_in u v k = rw (v, t.second d, u, t.first, truth_in_opens t.level part b (t.is ∙ k))

  -- of a connective whose right operand was not looked at
  pub decided_in : {x : Seen} → decides_of (kind_at part 0) x ≡ true → x ≡ truth_in (levels - 1) p b → f ≡ Connective
      → connect_in (kind_at part 0) x x ≡ truth_in levels part b
  decided_in {x} e u k = decided (kind_at part 0) x _ e ∙ connective_in refl u refl k
