-- What is promised of an expression of a readable file, for the layers above.
use Rattle.std.specs.Prelude.{◌≡◌, List, ℕ, ◌+◌, ◌/◌, ◌<◌, length, pos, ◌≤ℤ◌, Ok, Some}
use Rattle.integers.specs.declared.Interval.{Interval}
use Rattle.records.specs.Form.Form.{Constant, Variable}
use Rattle.records.specs.Record.{kind_at, field_a, value_b}
use Rattle.records.specs.declared.kinds.Sort.{Sort}
use Rattle.records.specs.declared.kinds.Operands.TheVariants.{Zero, One, Two}
use Rattle.records.specs.Kind.{divisor as divisor_sort, sort_for, signature_at}
use Rattle.records.specs.Form.{form_at}
use Rattle.records.specs.Walk.{walk_of}
use Rattle.intervals.specs.Interval.{unit, within, leaf_of, join_of, analysis_of}

-- an expression, asked for as `want`, at record `at`, with `levels` nesting levels left: it ends before record `end`, and its interval is i, in bounds as
-- those of all its records are
pub record Expression (file : List ℕ) (vars levels : ℕ) (want : Sort) (at end : ℕ) (i : Interval) : Type 0 where
  pub walks : walk_of file vars levels want at ≡ Ok end
  pub bounds : analysis_of file levels at ≡ Ok (within i end)

-- its operands, by how many there are, one level further in, and its interval by theirs
pub data Operands (file : List ℕ) (vars levels at end : ℕ) : Interval → Type 0 where
  none : (signature_at file at).operands ≡ Zero → end ≡ at + 1 → Operands file vars levels at end (leaf_of file at)
  one : {a : Sort} {j : Interval} → (signature_at file at).operands ≡ One a → Expression file vars levels a (at + 1) end j
      → Operands file vars levels at end unit
  two : {a b : Sort} {mid : ℕ} {j k : Interval} → (signature_at file at).operands ≡ Two a b → Expression file vars levels a (at + 1) mid j
      → Expression file vars levels b mid end k → Operands file vars levels at end (join_of (kind_at file at) j k)

-- its own record, which if it is a variable is one of the file's, and if it is a divisor a constant above 0, and its operands
pub record Opened (file : List ℕ) (vars levels : ℕ) (want : Sort) (at end : ℕ) (i : Interval) : Type 0 where
  pub here : at < length file / 8
  pub sort : (signature_at file at).sort ≡ Some (sort_for want)
  pub variable : form_at file at ≡ Variable → field_a file at < vars
  pub divisor : want ≡ divisor_sort → (form_at file at ≡ Constant) × (pos 1 ≤ℤ value_b file at)
  pub operands : Operands file vars levels at end i
