-- The refusals: the number and the place of each, and what follows an answer that may be one.
use Rattle.std.specs.Prelude.{ℕ, Result, Ok, Err}
use Rattle.shapes.specs.declared.Refusal.{Refusal}
use Rattle.shapes.specs.declared.Refusal.TheVariants.{Buffer, Length, Kind, Field, Limit, Repetition, States, Interval, Edge, NoWayDown}
use Rattle.shapes.specs.declared.Refusal.TheVariants.{ConditionNumber, StateNumber, Divisor, NoStart, Picks}

-- for C10.1 to C10.12, C10.19, C10.20, C10.22: its number
abbrev pub refused_number : Refusal → ℕ
refused_number Buffer = 1
refused_number Length = 2
refused_number (Kind at) = 3
refused_number (Field at) = 4
refused_number (Limit at) = 5
refused_number (Repetition at) = 6
refused_number (States at) = 7
refused_number (Interval at) = 8
refused_number (Edge at) = 9
refused_number (NoWayDown node) = 10
refused_number ConditionNumber = 11
refused_number StateNumber = 12
refused_number (Divisor at) = 19
refused_number NoStart = 20
refused_number (Picks at) = 22

-- for C10.1 to C10.12, C10.19, C10.20, C10.22: its place
abbrev pub refused_place : Refusal → ℕ
refused_place Buffer = 0
refused_place Length = 0
refused_place (Kind at) = at
refused_place (Field at) = at
refused_place (Limit at) = at
refused_place (Repetition at) = at
refused_place (States at) = at
refused_place (Interval at) = at
refused_place (Edge at) = at
refused_place (NoWayDown node) = node
refused_place ConditionNumber = 0
refused_place StateNumber = 0
refused_place (Divisor at) = at
refused_place NoStart = 0
refused_place (Picks at) = at

-- for C11.1, C11.2: what comes next of what is found; a refusal goes to `refused`
abbrev pub and_found : {A B : Type 0} → (Refusal → B) → Result A Refusal → (A → B) → B
and_found refused (Ok x) next = next x
and_found refused (Err r) next = refused r

-- for C11.1, C11.2: or the refusal stands
abbrev pub and_then : {A B : Type 0} → Result A Refusal → (A → Result B Refusal) → Result B Refusal
and_then (Ok x) next = next x
and_then (Err r) next = Err r
