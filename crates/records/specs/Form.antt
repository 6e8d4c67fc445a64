-- The forms of record that expressions are made of, by which proofs split: the kinds of a form are judged and evaluated alike.
use Rattle.std.specs.Prelude.{ℕ, List}
use Rattle.records.specs.Record.{kind_at}
use Rattle.records.specs.Kind.{within, number, truth, divisor, row, no_row}
use Rattle.records.specs.declared.kinds.Operands.TheVariants.{Zero, One, Two}
use Rattle.records.specs.declared.kinds.Signature.{Signature}

pub data Form : Type 0 where
  Constant : Form
  Variable : Form
  Arithmetic : Form
  Indicator : Form
  Division : Form
  Literal : Form
  Negation : Form
  Connective : Form
  Comparison : Form
  Unfit : Form

-- the form of a kind
unfoldable pub form_of : ℕ → Form
form_of kind =
    within 0x10 0x10 kind Constant
    (within 0x11 0x11 kind Variable
    (within 0x12 0x14 kind Arithmetic
    (within 0x15 0x15 kind Indicator
    (within 0x18 0x19 kind Division
    (within 0x20 0x21 kind Literal
    (within 0x22 0x22 kind Negation
    (within 0x23 0x26 kind Connective
    (within 0x27 0x29 kind Comparison
    Unfit))))))))

abbrev pub form_at : List ℕ → ℕ → Form
form_at file at = form_of (kind_at file at)

-- the signature of a form's kinds
abbrev pub row_of : Form → Signature
row_of Constant = row number Zero
row_of Variable = row number Zero
row_of Arithmetic = row number (Two number number)
row_of Indicator = row number (One truth)
row_of Division = row number (Two number divisor)
row_of Literal = row truth Zero
row_of Negation = row truth (One truth)
row_of Connective = row truth (Two truth truth)
row_of Comparison = row truth (Two number number)
row_of Unfit = no_row
