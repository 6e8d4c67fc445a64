-- Reading a whole file: the first refusal of 2 to 10, 19 and 22 that meets it, or its outline. 2 to 6 and 19 are parsing's.
use Rattle.std.specs.Prelude.{List, ℕ, Ok}
use Rattle.shapes.specs.declared.Outline.{Outline}
use Rattle.shapes.specs.Refusal.{and_then}
use Rattle.parsing.specs.Outline.{Reading, parsed_of}
use Rattle.reading.specs.States.{states_of}
use Rattle.reading.specs.Picks.{picks_of}
use Rattle.intervals.specs.Interval.{intervals_of}
use Rattle.reading.specs.Edge.{rules_of, doubles_of}

-- C11.1: 7, then 22, then 8, then 9, then 10, each for the whole file
unfoldable pub stages_read : List ℕ → Outline → Reading
stages_read file o =
    and_then (states_of file o.vars 0 1) λ end.
    and_then (picks_of file) λ end.
    and_then (intervals_of file) λ end.
    and_then (rules_of file o) λ end.
    and_then (doubles_of file o) λ end.
    Ok o

-- C11.1, C11.6: 2 to 6 and 19, then those
unfoldable pub read_of : List ℕ → Reading
read_of file = and_then (parsed_of file) (stages_read file)
