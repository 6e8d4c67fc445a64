-- What the expression that a part of the file begins with is worth in a state. A state is the list of twelve values. `levels` is how many nesting levels are
-- left, 16 at the outermost record.
use Rattle.std.specs.Prelude.{List, Bool, false, not, cond, ◌&&◌, ◌||◌, ℕ, zero, suc, ◌+◌, ◌*◌, get_or, drop, leb, eqb, ℤ, pos}
use Rattle.std.specs.Bool.{beq}
use Rattle.std.specs.Int.Signed.{lt_z, le_z}
use Rattle.integers.specs.Tests.{eq_z}
use Rattle.records.specs.Record.{kind_at, field_a, value_b}
use Rattle.records.specs.Walk.{span}
use Rattle.intervals.specs.Interval.{combine, divide}

-- ---- parts
-- for C2.1: the part of a file, or of a part, that begins at record `at`; an expression is known by the part that it begins
abbrev pub part_at : List ℕ → ℕ → List ℕ
part_at file at = drop (8 * at) file

-- C2.1: the first operand begins behind the record, the second behind the first
unfoldable pub first_operand : List ℕ → List ℕ
first_operand part = part_at part 1

unfoldable pub second_operand : ℕ → List ℕ → List ℕ
second_operand levels part = part_at part (1 + span levels (first_operand part))

-- ---- one record; `combine` is the arithmetic of C2.5, `divide` that of C2.14
-- C2.6: 1 where it is true, else 0
unfoldable pub indicator_of : Bool → ℤ
indicator_of p = cond p (pos 1) (pos 0)

-- C2.9: 23 and, 24 or, 25 implies, 26 iff
unfoldable pub connect_of : ℕ → Bool → Bool → Bool
connect_of kind p q = cond (eqb kind 0x23) (p && q) (cond (eqb kind 0x24) (p || q) (cond (eqb kind 0x25) (not p || q) (beq p q)))

-- C2.10: 27 equal, 28 less, 29 at most
unfoldable pub compare_of : ℕ → ℤ → ℤ → Bool
compare_of kind x y = cond (eqb kind 0x27) (eq_z x y) (cond (eqb kind 0x28) (lt_z x y) (le_z x y))

-- C2.3, C2.4: the number that begins a part, by the kind of its record, one of a number's: a readable file has no other where a number is asked. N and T
-- say what the parts of its operands are worth, one level further in
unfoldable pub number_by : ℕ → (List ℕ → ℤ) → (List ℕ → Bool) → ℕ → List ℕ → List ℤ → ℤ
number_by levels N T kind part state =
    cond (eqb kind 0x10) (value_b part 0)
    (cond (eqb kind 0x11) (get_or state (field_a part 0) (pos 0))
    (cond (eqb kind 0x15) (indicator_of (T (first_operand part)))
    (cond (leb 0x18 kind) (divide kind (N (first_operand part)) (N (second_operand levels part)))
    (combine kind (N (first_operand part)) (N (second_operand levels part))))))

-- C2.7, C2.8: and the truth, by a truth's kind
unfoldable pub truth_by : ℕ → (List ℕ → ℤ) → (List ℕ → Bool) → ℕ → List ℕ → Bool
truth_by levels N T kind part =
    cond (leb kind 0x21) (eqb kind 0x20)
    (cond (eqb kind 0x22) (not (T (first_operand part)))
    (cond (leb kind 0x26) (connect_of kind (T (first_operand part)) (T (second_operand levels part)))
    (compare_of kind (N (first_operand part)) (N (second_operand levels part)))))

-- ---- numbers hold truths, and truths hold numbers
-- for C2.3 to C2.10, C2.14: what the expression that begins a part is worth
unfoldable mutual
  pub number : ℕ → List ℕ → List ℤ → ℤ
  number zero part state = pos 0
  number (suc levels) part state = number_by levels (λ p. number levels p state) (λ p. truth levels p state) (kind_at part 0) part state

  pub truth : ℕ → List ℕ → List ℤ → Bool
  truth zero part state = false
  truth (suc levels) part state = truth_by levels (λ p. number levels p state) (λ p. truth levels p state) (kind_at part 0) part

-- for C8.1, C6.3: a truth of a file, from its first record on
unfoldable pub holds_of : List ℕ → ℕ → List ℤ → Bool
holds_of file at state = truth 16 (part_at file at) state

-- for C2.1: the record behind the expression at record `at`
unfoldable pub behind : List ℕ → ℕ → ℕ
behind file at = at + span 16 (part_at file at)
