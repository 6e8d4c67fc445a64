-- The ranges of a file's variables, as tables of twelve; a variable that the file lacks has the range 0..0.
use Rattle.std.specs.Prelude.{List, ℕ, ◌+◌, ◌*◌, ℤ, pos}
use Rattle.truths.specs.Table.{table_of}
use Rattle.records.specs.Record.{value}

-- C1.6, C4.2: the low or the high ends: of each variable's record the field that begins at byte 2 (b) or at byte 4 (c)
unfoldable pub ends_of : List ℕ → ℕ → ℕ → List ℤ
ends_of file vars field = table_of 12 (pos 0) (λ v. value file (8 * v + field)) vars

abbrev pub lows_of : List ℕ → ℕ → List ℤ
lows_of file vars = ends_of file vars 2

abbrev pub highs_of : List ℕ → ℕ → List ℤ
highs_of file vars = ends_of file vars 4
