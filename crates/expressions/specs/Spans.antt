-- A table of 4096 entries: how many records each expression of a part has, by the record that it begins at.
use Rattle.std.specs.Prelude.{◌≡◌, List, [], ◌∷◌, ◌++◌, ℕ, zero, suc, ◌+◌, ◌-◌, ◌/◌, ◌≤◌, length, get_or, replicate, ℤ}
use Rattle.records.specs.declared.kinds.Sort.{Sort}
use Rattle.records.specs.Kind.{count, signature_at}
use Rattle.records.specs.Walk.{span}
use Rattle.expressions.specs.Expression.{part_at}
use Rattle.expressions.specs.Fits.{Fits}

-- the entry of a record with so many operands, by the entries behind it: the first operand begins behind the record, the second behind the first
unfoldable pub span_by : ℕ → List ℕ → ℕ
span_by zero rest = 1
span_by (suc zero) rest = 1 + get_or rest 0 0
span_by (suc (suc n)) rest = 1 + get_or rest 0 0 + get_or rest (get_or rest 0 0) 0

-- these entries with that one before them
unfoldable pub with_span : ℕ → List ℕ → List ℕ
with_span operands rest = span_by operands rest ∷ rest

-- the entries of the n records from `at` on
unfoldable pub spans_from : List ℕ → ℕ → ℕ → List ℕ
spans_from file zero at = []
spans_from file (suc n) at = with_span (count (signature_at file at).operands) (spans_from file n (at + 1))

-- of all the file's records; zeros beyond
unfoldable pub spans_of : List ℕ → List ℕ
spans_of file = spans_from file (length file / 8) 0 ++ replicate (4096 - length file / 8) 0

-- what the evaluators ask of a table: it is right wherever an expression begins
pub record Spans (part table : List ℕ) : Type 0 where
  pub enough : length part ≤ 32768
  pub right : (at levels : ℕ) (want : Sort) (state : List ℤ) → Fits levels want (part_at part at) state
      → get_or table at 0 ≡ span levels (part_at part at)
