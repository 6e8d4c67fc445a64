-- The kinds of record that expressions are made of.
use Rattle.std.specs.Prelude.{ℕ, Bool, true, false, cond, ◌&&◌, List, leb, Option, None, Some}
use Rattle.records.specs.Record.{kind_at}
use Rattle.records.specs.declared.kinds.Sort.{Sort}
use Rattle.records.specs.declared.kinds.Sort.TheVariants.{Number, Truth, Divisor}
use Rattle.records.specs.declared.kinds.Operands.{Operands}
use Rattle.records.specs.declared.kinds.Operands.TheVariants.{Zero, One, Two}
use Rattle.records.specs.declared.kinds.Signature.{Signature}

-- for C2.2: `hit` where lo ≤ kind ≤ hi, else `miss`
unfoldable pub within : {A : Type 0} → ℕ → ℕ → ℕ → A → A → A
within lo hi kind hit miss = cond (leb lo kind && leb kind hi) hit miss

-- C2.2: the sorts: an expression is a number or a truth, and a record of any other kind begins none
abbrev pub number : Sort
number = Number

abbrev pub truth : Sort
truth = Truth

-- C2.15: asked, as if it were a sort, of the second operand of a quotient or remainder: a number, but not any
abbrev pub divisor : Sort
divisor = Divisor

-- for C2.15: the sort of the records that may stand where `want` is asked
abbrev pub sort_for : Sort → Sort
sort_for Number = Number
sort_for Truth = Truth
sort_for Divisor = Number

-- for C10.3: one sort is another, and a kind has this sort
abbrev pub same_sort : Sort → Sort → Bool
same_sort Number Number = true
same_sort Number Truth = false
same_sort Number Divisor = false
same_sort Truth Number = false
same_sort Truth Truth = true
same_sort Truth Divisor = false
same_sort Divisor Number = false
same_sort Divisor Truth = false
same_sort Divisor Divisor = true

abbrev pub is_sort : Option Sort → Sort → Bool
is_sort None sort = false
is_sort (Some s) sort = same_sort s sort

-- for C2.2: how many operands there are
abbrev pub count : Operands → ℕ
count Zero = 0
count (One a) = 1
count (Two a b) = 2

-- for C2.2: a row of the table: sort and operands, with the sorts that are asked of them; and of a kind that begins no expression
abbrev pub row : Sort → Operands → Signature
row sort operands = record { sort = Some sort; operands = operands }

abbrev pub no_row : Signature
no_row = record { sort = None; operands = Zero }

-- C2.2 to C2.11, C2.14: by the kind: constant and variable, arithmetic, indicator, quotient and remainder; literals, negation, connectives, comparisons
unfoldable pub signature_of : ℕ → Signature
signature_of kind =
    within 0x10 0x11 kind (row number Zero)
    (within 0x12 0x14 kind (row number (Two number number))
    (within 0x15 0x15 kind (row number (One truth))
    (within 0x18 0x19 kind (row number (Two number divisor))
    (within 0x20 0x21 kind (row truth Zero)
    (within 0x22 0x22 kind (row truth (One truth))
    (within 0x23 0x26 kind (row truth (Two truth truth))
    (within 0x27 0x29 kind (row truth (Two number number))
    no_row)))))))

-- C2.2: that of the record at `at`
abbrev pub signature_at : List ℕ → ℕ → Signature
signature_at file at = signature_of (kind_at file at)
