-- A file is its list of bytes; a record is known by its number. Bytes that a file lacks count as zero.
use Rattle.std.specs.Prelude.{ℕ, zero, suc, ◌+◌, ◌*◌, ◌/◌, Bool, true, ◌&&◌, List, ℤ, length, get_or, ltb, eqb}
use Rattle.integers.specs.Bytes.{signed16}

-- C1.3: the two bytes from byte i on, as they stand and as a signed number
abbrev pub word : List ℕ → ℕ → ℕ
word file i = get_or file i 0 + 256 * get_or file (i + 1) 0

abbrev pub value : List ℕ → ℕ → ℤ
value file i = signed16 (get_or file i 0) (get_or file (i + 1) 0)

-- ---- the fields of the record at `at`
-- C1.1, C1.2: kind and a of the record at `at`, which begins at byte 8 × at
abbrev pub kind_at : List ℕ → ℕ → ℕ
kind_at file at = get_or file (8 * at) 0

abbrev pub field_a : List ℕ → ℕ → ℕ
field_a file at = get_or file (8 * at + 1) 0

-- C1.2, C1.15: b and c where they count phases or name nodes: as unsigned numbers, so that a negative one is too large
abbrev pub field_b : List ℕ → ℕ → ℕ
field_b file at = word file (8 * at + 2)

abbrev pub field_c : List ℕ → ℕ → ℕ
field_c file at = word file (8 * at + 4)

-- C1.2, C1.3: b and c where they are values
abbrev pub value_b : List ℕ → ℕ → ℤ
value_b file at = value file (8 * at + 2)

abbrev pub value_c : List ℕ → ℕ → ℤ
value_c file at = value file (8 * at + 4)

-- C1.2: d
abbrev pub field_d : List ℕ → ℕ → ℕ
field_d file at = get_or file (8 * at + 6) 0

-- ---- tests
-- for C10.3, C1.5: the record at `at` is there and has this kind
unfoldable pub kind_is : List ℕ → ℕ → ℕ → Bool
kind_is file kind at = ltb at (length file / 8) && eqb (kind_at file at) kind

-- C1.4: the n bytes from `at` on are zero
unfoldable pub zeros_of : List ℕ → ℕ → ℕ → Bool
zeros_of file at zero = true
zeros_of file at (suc n) = eqb (get_or file at 0) 0 && zeros_of file (at + 1) n

-- for C10.6: the n bytes from i on are those from j on
unfoldable pub same_bytes : List ℕ → ℕ → ℕ → ℕ → Bool
same_bytes file i j zero = true
same_bytes file i j (suc n) = eqb (get_or file i 0) (get_or file j 0) && same_bytes file (i + 1) (j + 1) n
