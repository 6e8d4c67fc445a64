-- Where the items of a section stand: a table of record numbers, found in one walk.
use Rattle.std.specs.Prelude.{ℕ, List, Ok, Err}
use Rattle.records.specs.Walk.{Walked, in_sequence}
use Rattle.truths.specs.Table.{table_of}

-- for C1.5: the record that a walk ends before; 0 where it is refused
abbrev pub place_of : Walked → ℕ
place_of (Ok end) = end
place_of (Err refusal) = 0

-- for C1.5: the places of n parts in sequence, at most 32, from record `first` on; zeros beyond
unfoldable pub places_of : (ℕ → Walked) → ℕ → ℕ → List ℕ
places_of part n first = table_of 32 0 (λ i. place_of (in_sequence part i first)) n
