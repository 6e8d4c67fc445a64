-- What the evaluators ask: an expression's records are there, their kinds fit, every number is small, and no divisor is below 1.
use Rattle.std.specs.Prelude.{◌≡◌, List, ℕ, zero, suc, ◌≤◌, ◌<◌, length, ℤ, pos, ◌≤ℤ◌, Some}
use Rattle.integers.specs.Interval.{bounds}
use Rattle.integers.specs.Inside.{In}
use Rattle.records.specs.Form.Form.{Constant, Variable}
use Rattle.records.specs.Record.{field_a, value_b}
use Rattle.records.specs.declared.kinds.Sort.{Sort}
use Rattle.records.specs.declared.kinds.Operands.{Operands}
use Rattle.records.specs.declared.kinds.Operands.TheVariants.{Zero, One, Two}
use Rattle.records.specs.Kind.{sort_for, signature_at, number as number_sort, truth as truth_sort, divisor as divisor_sort}
use Rattle.records.specs.Form.{form_at}
use Rattle.expressions.specs.Expression.{part_at, first_operand, second_operand, number}

-- the record that begins a part, where `want` is asked; a variable is one of twelve, a divisor a constant above 0
pub record RecordFits (want : Sort) (part : List ℕ) : Type 0 where
  pub there : 8 ≤ length part
  pub sort : (signature_at part 0).sort ≡ Some (sort_for want)
  pub variable : form_at part 0 ≡ Variable → field_a part 0 < 12
  pub divisor : want ≡ divisor_sort → (form_at part 0 ≡ Constant) × (pos 1 ≤ℤ value_b part 0)

-- the operands that the kind says, where F says by what is asked of an operand's part that it fits
unfoldable pub OperandsFit : (Sort → List ℕ → Type 0) → ℕ → List ℕ → Operands → Type 0
OperandsFit F levels part Zero = Unit {0}
OperandsFit F levels part (One a) = F a (first_operand part)
OperandsFit F levels part (Two a b) = F a (first_operand part) × F b (second_operand levels part)

unfoldable pub Fits : ℕ → Sort → List ℕ → List ℤ → Type 0
Fits zero want part state = ⊥
Fits (suc levels) want part state =
    RecordFits want part
    × (sort_for want ≡ number_sort → In (number (suc levels) part state) bounds)
    × OperandsFit (λ sort p. Fits levels sort p state) levels part (signature_at part 0).operands

-- a truth expression of a file, from its first record on
abbrev pub TruthFits : List ℕ → ℕ → List ℤ → Type 0
TruthFits file at state = Fits 16 truth_sort (part_at file at) state
