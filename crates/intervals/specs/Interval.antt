-- The interval of a number expression, and refusal 8.
use Rattle.std.specs.Prelude.{ℕ, zero, suc, ◌+◌, ◌/◌, cond, ◌&&◌, List, length, ltb, leb, eqb, ℤ, pos, nat_abs, ◌+ℤ◌, ◌-ℤ◌, ◌*ℤ◌, Result, Ok, Err, is_none}
use Rattle.integers.specs.declared.Interval.{Interval}
use Rattle.integers.specs.Interval.{max_z, over_ends, in_bounds}
use Rattle.integers.specs.Quotient.{quotient, remainder}
use Rattle.shapes.specs.declared.Refusal.{Refusal}
use Rattle.shapes.specs.Refusal.{and_then}
use Rattle.records.specs.Record.{kind_at, field_a, value_b, value_c}
use Rattle.records.specs.declared.kinds.Operands.{Operands}
use Rattle.records.specs.declared.kinds.Operands.TheVariants.{Zero, One, Two}
use Rattle.records.specs.Kind.{signature_at}
use Rattle.intervals.specs.declared.Analysis.{Analysis}
use Rattle.records.specs.Walk.{Walked}

-- for C3.1: from l to h
abbrev pub interval : ℤ → ℤ → Interval
interval l h = record { low = l; high = h }

-- C3.2: 0..1, also for a truth, which counts as its indicator
abbrev pub unit : Interval
unit = interval (pos 0) (pos 1)

-- C3.1: of a record without operands
unfoldable pub leaf_of : List ℕ → ℕ → Interval
leaf_of file at =
    cond (eqb (kind_at file at) 0x10) (interval (value_b file at) (value_b file at))
    (cond (eqb (kind_at file at) 0x11) (interval (value_b file (field_a file at)) (value_c file (field_a file at))) unit)

-- C2.5: 12 sum, 13 difference, 14 product
unfoldable pub combine : ℕ → ℤ → ℤ → ℤ
combine kind = cond (eqb kind 0x12) ◌+ℤ◌ (cond (eqb kind 0x13) ◌-ℤ◌ ◌*ℤ◌)

-- C2.14: 18 quotient, 19 remainder, of n by d, which is above 0
unfoldable pub divide : ℕ → ℤ → ℤ → ℤ
divide kind n d = cond (eqb kind 0x18) (quotient n (nat_abs d)) (pos (remainder n (nat_abs d)))

-- C3.7: of a quotient or remainder, from its first operand's and the divisor
unfoldable pub divided_by : ℕ → Interval → ℤ → Interval
divided_by kind i d = cond (eqb kind 0x18) (interval (divide 0x18 i.low d) (divide 0x18 i.high d)) (interval (pos 0) (d -ℤ pos 1))

-- for C3.7: the divisor, which its interval holds alone; 1 where that is lower, as in no file that parses
abbrev pub divisor_of : Interval → ℤ
divisor_of j = max_z (pos 1) j.low

-- C3.3, C3.7: of a record with two operands; a truth's is 0..1
unfoldable pub join_of : ℕ → Interval → Interval → Interval
join_of kind i j =
    cond (leb 0x12 kind && leb kind 0x14) (over_ends (combine kind) i j)
    (cond (leb 0x18 kind && leb kind 0x19) (divided_by kind i (divisor_of j)) unit)

-- for C3.5: the interval of an expression and the record behind it, or the record whose own interval is out of bounds
abbrev pub Analysed : Type 0
Analysed = Result Analysis Refusal

abbrev pub within : Interval → ℕ → Analysis
within i end = record { interval = i; end = end }

-- C3.4, C10.8: a record's own interval, once its operands are judged
unfoldable pub own_of : Interval → ℕ → ℕ → Analysed
own_of i end at = cond (in_bounds i) (Ok (within i end)) (Err (Refusal.Interval at))

-- C3.2, C3.5: a record at `at` by its operands, each judged by `operand`
unfoldable pub by_operands : List ℕ → ℕ → (ℕ → Analysed) → Operands → Analysed
by_operands file at operand Zero = own_of (leaf_of file at) (at + 1) at
by_operands file at operand (One a) = and_then (operand (at + 1)) λ i. own_of unit i.end at
by_operands file at operand (Two a b) =
    and_then (operand (at + 1)) λ i. and_then (operand i.end) λ j. own_of (join_of (kind_at file at) i.interval j.interval) j.end at

-- for C3.5: the expression at record `at`, which nests within `levels`. With no level or record left it is out; a file that parses has both
unfoldable pub analysis_of : List ℕ → ℕ → ℕ → Analysed
analysis_of file zero at = Err (Refusal.Interval at)
analysis_of file (suc levels) at =
    cond (ltb at (length file / 8)) (by_operands file at (analysis_of file levels) (signature_at file at).operands) (Err (Refusal.Interval at))

-- C3.5, C10.8: every expression in file order, from record `at` on, with at most `left` records left; a record that begins none is passed over
unfoldable pub analysed_from : List ℕ → ℕ → ℕ → Walked
analysed_from file zero at = Ok at
analysed_from file (suc left) at =
    cond (ltb at (length file / 8))
    (cond (is_none (signature_at file at).sort) (analysed_from file left (at + 1))
    (and_then (analysis_of file 16 at) λ i. analysed_from file left i.end))
    (Ok at)

-- C10.8: of the whole file
unfoldable pub intervals_of : List ℕ → Walked
intervals_of file = analysed_from file (length file / 8) 0
