-- How many combinations of picks the transitions have, and refusal 22.
use Rattle.std.specs.Prelude.{ℕ, zero, suc, ◌+◌, ◌*◌, ◌/◌, cond, List, length, leb, Ok, Err}
use Rattle.shapes.specs.declared.Refusal.{Refusal}
use Rattle.records.specs.Walk.{Walked}
use Rattle.records.specs.Record.{kind_is}
use Rattle.reading.specs.declared.product.Combined.{Combined}
use Rattle.reading.specs.States.{size_at}

-- for C10.22: the transition met last, and how many combinations its picks so far have
abbrev pub picks_at : ℕ → ℕ → Combined
picks_at place product = record { place = place; product = product }

-- C10.22: the record at `at` more, where p is for those before. In a file that parses, all records of kinds 03 and 08 are transitions and their picks
unfoldable pub past_record : List ℕ → ℕ → Combined → Combined
past_record file at p =
    cond (kind_is file 0x03 at) (picks_at at 1) (cond (kind_is file 0x08 at) (picks_at p.place (p.product * size_at file at)) p)

-- C10.22: the `left` records from `at` on
unfoldable pub picks_from : List ℕ → ℕ → ℕ → Combined → Walked
picks_from file zero at p = Ok at
picks_from file (suc left) at p =
    let q = past_record file at p in
    cond (leb q.product 4096) (picks_from file left (at + 1) q) (Err (Refusal.Picks q.place))

-- C10.22: of the whole file
unfoldable pub picks_of : List ℕ → Walked
picks_of file = picks_from file (length file / 8) 0 (picks_at 0 1)
