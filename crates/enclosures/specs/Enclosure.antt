-- What is known, on a box of states, of the expression that a part of the file begins with, as `number` and `truth` say what it is worth in one state.
use Rattle.std.specs.Prelude.{List, ℕ, zero, suc, get_or, pos}
use Rattle.records.specs.Form.{Form}
use Rattle.records.specs.Form.Form.{Constant, Variable, Arithmetic, Indicator, Division, Literal, Negation, Connective, Comparison, Unfit}
use Rattle.records.specs.Record.{kind_at, field_a, value_b}
use Rattle.records.specs.Form.{form_at}
use Rattle.expressions.specs.Expression.{part_at, first_operand, second_operand}
use Rattle.boxes.specs.declared.Box.{Box}
use Rattle.domains.specs.declared.seen.Seen.{Seen}
use Rattle.domains.specs.declared.seen.Seen.TheVariants.{No}
use Rattle.domains.specs.declared.extents.Extent.{Extent}
use Rattle.domains.specs.Seen.{opposite_of, connect_in, literal_in}
use Rattle.domains.specs.Extent.{extent_of, combine_in, divide_in, indicator_in, compare_in}

-- what is no number counts as 0
abbrev pub nothing : Extent
nothing = extent_of (pos 0) (pos 0) 12

-- the number that begins a part, by the form of its record; N and T say what is known of the parts of its operands, one level further in
unfoldable pub number_in_by : ℕ → (List ℕ → Extent) → (List ℕ → Seen) → Form → List ℕ → Box → Extent
number_in_by levels N T Constant part b = extent_of (value_b part 0) (value_b part 0) 12
number_in_by levels N T Variable part b = extent_of (get_or b.low (field_a part 0) (pos 0)) (get_or b.high (field_a part 0) (pos 0)) (field_a part 0)
number_in_by levels N T Arithmetic part b = combine_in (kind_at part 0) (N (first_operand part)) (N (second_operand levels part))
number_in_by levels N T Indicator part b = indicator_in (T (first_operand part))
number_in_by levels N T Division part b = divide_in (kind_at part 0) (N (first_operand part)) (value_b (second_operand levels part) 0)
number_in_by levels N T Literal part b = nothing
number_in_by levels N T Negation part b = nothing
number_in_by levels N T Connective part b = nothing
number_in_by levels N T Comparison part b = nothing
number_in_by levels N T Unfit part b = nothing

-- and the truth
unfoldable pub truth_in_by : ℕ → (List ℕ → Extent) → (List ℕ → Seen) → Form → List ℕ → Seen
truth_in_by levels N T Literal part = literal_in (kind_at part 0)
truth_in_by levels N T Negation part = opposite_of (T (first_operand part))
truth_in_by levels N T Connective part = connect_in (kind_at part 0) (T (first_operand part)) (T (second_operand levels part))
truth_in_by levels N T Comparison part = compare_in (kind_at part 0) (N (first_operand part)) (N (second_operand levels part))
truth_in_by levels N T Constant part = No
truth_in_by levels N T Variable part = No
truth_in_by levels N T Arithmetic part = No
truth_in_by levels N T Indicator part = No
truth_in_by levels N T Division part = No
truth_in_by levels N T Unfit part = No

unfoldable mutual
  pub number_in : ℕ → List ℕ → Box → Extent
  number_in zero part b = nothing
  number_in (suc levels) part b =
      number_in_by levels (λ p. number_in levels p b) (λ p. truth_in levels p b) (form_at part 0) part b

  pub truth_in : ℕ → List ℕ → Box → Seen
  truth_in zero part b = No
  truth_in (suc levels) part b =
      truth_in_by levels (λ p. number_in levels p b) (λ p. truth_in levels p b) (form_at part 0) part

-- a truth expression of a file, from its first record on
unfoldable pub seen_of : List ℕ → ℕ → Box → Seen
seen_of file at b = truth_in 16 (part_at file at) b
