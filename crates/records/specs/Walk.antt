-- The walk of an expression. It ends behind the expression's last record, or at the first refusal 3, 4, 5 or 19 of its records, tried in that order at
-- each.
use Rattle.std.specs.Prelude.{ℕ, zero, suc, ◌+◌, ◌*◌, ◌/◌, Bool, true, cond, ◌&&◌, List, length, get_or, drop, ltb, eqb, pos, Result, Ok, Err}
use Rattle.std.specs.Int.Signed.{lt_z}
use Rattle.shapes.specs.declared.Refusal.{Refusal}
use Rattle.shapes.specs.Refusal.{and_then}
use Rattle.records.specs.Record.{kind_at, field_a, value_b, zeros_of}
use Rattle.records.specs.declared.kinds.Sort.{Sort}
use Rattle.records.specs.declared.kinds.Sort.TheVariants.{Number, Truth, Divisor}
use Rattle.records.specs.declared.kinds.Operands.{Operands}
use Rattle.records.specs.declared.kinds.Operands.TheVariants.{Zero, One, Two}
use Rattle.records.specs.Kind.{truth, sort_for, is_sort, count, signature_of, signature_at}

-- C1.4, C1.15, C10.4: a constant's fields, a variable's (C2.4), and those of any other record of an expression
unfoldable pub expression_fields : List ℕ → ℕ → ℕ → Bool
expression_fields file vars at =
    cond (eqb (kind_at file at) 0x10) (zeros_of file (8 * at + 1) 1 && zeros_of file (8 * at + 4) 4)
    (cond (eqb (kind_at file at) 0x11) (ltb (field_a file at) vars && zeros_of file (8 * at + 2) 6)
    (zeros_of file (8 * at + 1) 7))

-- for C1.5: where a walk ends, at the record behind, or the refusal that meets it
abbrev pub Walked : Type 0
Walked = Result ℕ Refusal

-- for C2.1: n parts, one behind the other, each walked by `part`
unfoldable pub in_sequence : (ℕ → Walked) → ℕ → ℕ → Walked
in_sequence part zero at = Ok at
in_sequence part (suc n) at = and_then (part at) (in_sequence part n)

-- C2.1: operands, one behind the other, each walked by `part` with what is asked of it
unfoldable pub operands_of : (Sort → ℕ → Walked) → Operands → ℕ → Walked
operands_of part Zero at = Ok at
operands_of part (One a) at = part a at
operands_of part (Two a b) at = and_then (part a at) (part b)

-- C10.3, C10.4, C11.2: the record at `at` by itself, then `rest`: 3 where the file ends before it or its kind is not of the sort wanted, then 4
unfoldable pub record_then : List ℕ → ℕ → Sort → ℕ → Walked → Walked
record_then file vars want at rest =
    cond (ltb at (length file / 8) && is_sort (signature_at file at).sort (sort_for want))
    (cond (expression_fields file vars at) rest (Err (Refusal.Field at)))
    (Err (Refusal.Kind at))

-- C2.15: where a divisor is asked, the record at `at` is a constant above 0
unfoldable pub suits : List ℕ → Sort → ℕ → Bool
suits file Divisor at = eqb (kind_at file at) 0x10 && lt_z (pos 0) (value_b file at)
suits file Number at = true
suits file Truth at = true

-- C10.19: 19 unless it is, then `rest`
unfoldable pub divisor_then : List ℕ → Sort → ℕ → Walked → Walked
divisor_then file want at rest = cond (suits file want at) rest (Err (Refusal.Divisor at))

-- C2.12, C10.5, C11.2, C11.3: the expression asked for as `want` at record `at`, with `levels` nesting levels left; with none left its record is one past
-- the limit
unfoldable pub walk_of : List ℕ → ℕ → ℕ → Sort → ℕ → Walked
walk_of file vars zero want at = record_then file vars want at (Err (Refusal.Limit at))
walk_of file vars (suc levels) want at =
    record_then file vars want at
    (divisor_then file want at (operands_of (walk_of file vars levels) (signature_at file at).operands (at + 1)))

-- for C2.12: a whole truth
abbrev pub truth_of : List ℕ → ℕ → ℕ → Walked
truth_of file vars at = walk_of file vars 16 truth at

-- ---- the number of records of the expression that begins a part, from the kind bytes alone
-- for C2.2: k records, and behind them n operands, each with the number of records that `operand` gives
unfoldable pub spans : (List ℕ → ℕ) → ℕ → ℕ → List ℕ → ℕ
spans operand zero k part = k
spans operand (suc n) k part = spans operand n (k + operand (drop (8 * k) part)) part

-- C2.2: how many records it has
unfoldable pub span : ℕ → List ℕ → ℕ
span zero part = 0
span (suc levels) part = spans (span levels) (count (signature_of (get_or part 0 0)).operands) 1 part

-- ---- tests of numbers in a row
-- for C10.9, C10.10: the `left` numbers from `at` on pass the test, or the first that does not is refused
unfoldable pub refuse_first : (ℕ → Refusal) → (ℕ → Bool) → ℕ → ℕ → Walked
refuse_first refused test zero at = Ok at
refuse_first refused test (suc left) at = cond (test at) (refuse_first refused test left (at + 1)) (Err (refused at))
