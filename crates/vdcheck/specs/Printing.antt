-- What the program prints.
use Rattle.std.specs.Prelude.{ℕ, ◌+◌, ◌/◌, ◌%◌, ◌≡◌, Bool, cond, List, [], ◌∷◌, ◌++◌, ltb, replicate}
use Rattle.std.specs.Fmt.{decimal}
use Rattle.verdicts.specs.Verdict.{check_of}
use Rattle.report.specs.Report.{report_of}

-- for C15.1: 0 to 9, then a to f, in ASCII
unfoldable pub digit_of : ℕ → ℕ
digit_of number = cond (ltb number 10) (number + 48) (number + 87)

-- for C15.1: two digits for each byte, the high one first
unfoldable pub digits_of : List ℕ → List ℕ
digits_of [] = []
digits_of (byte ∷ bytes) = digit_of (byte / 16) ∷ (digit_of (byte % 16) ∷ digits_of bytes)

-- for C15.1: and a line feed
unfoldable pub line_of : List ℕ → List ℕ
line_of report = digits_of report ++ (10 ∷ [])

-- C15.1: the line for a file: the check's report, in a buffer of 32 bytes
unfoldable pub printed_of : List ℕ → List ℕ
printed_of file = line_of (report_of (check_of file 32) (replicate 32 0))

-- C15.2: --tests, in ASCII, is the one argument; `count` counts the program's name too
abbrev pub TestsAsked : ℕ → List ℕ → Type 0
TestsAsked count argument = (count ≡ 2) × (argument ≡ 45 ∷ 45 ∷ 116 ∷ 101 ∷ 115 ∷ 116 ∷ 115 ∷ [])

-- C15.8: what is printed: the line, and if asked the tests in decimal on a second one
abbrev pub output_of : List ℕ → ℕ → Bool → List ℕ
output_of line tests asked = cond asked (line ++ (decimal tests ++ (10 ∷ []))) line
