-- The report of a verdict.
use Rattle.std.specs.Prelude.{cond, List, [], ◌∷◌, ◌++◌, ℕ, ◌/◌, ◌%◌, ℤ, length, drop, ltb}
use Rattle.integers.specs.Bytes.{low_byte, high_byte}
use Rattle.report.specs.declared.Verdict.{Verdict}

-- C14.3: two bytes for each value, low byte first
unfoldable pub value_bytes : List ℤ → List ℕ
value_bytes [] = []
value_bytes (value ∷ values) = low_byte value ∷ high_byte value ∷ value_bytes values

-- C14.1, C14.2: the report
unfoldable pub report_bytes : Verdict → List ℕ
report_bytes v =
    v.number ∷ v.node ∷ v.transition ∷ 0 ∷
    v.at % 256 ∷ v.at / 256 % 256 ∷ v.at / 65536 % 256 ∷ v.at / 16777216 ∷ value_bytes v.values

-- C14.4, C14.5: the buffer afterwards: the report in front if it has room for it, else as it was; the bytes behind stay (C14.6)
unfoldable pub report_of : Verdict → List ℕ → List ℕ
report_of v report = cond (ltb (length report) 32) report (report_bytes v ++ drop 32 report)
