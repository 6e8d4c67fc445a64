-- How many states a file has, and refusal 7.
use Rattle.std.specs.Prelude.{ℕ, zero, suc, ◌+◌, ◌*◌, cond, List, leb, Ok, Err}
use Rattle.shapes.specs.declared.Refusal.{Refusal}
use Rattle.records.specs.Walk.{Walked}
use Rattle.records.specs.Record.{value_b, value_c}
use Rattle.states.specs.Number.{size_of}

-- for C10.7, C10.22: how many values the variable or pick at record `at` has
unfoldable pub size_at : List ℕ → ℕ → ℕ
size_at file at = size_of (value_b file at) (value_c file at)

-- C10.7: `product` times the sizes of the `left` variables from `at` on
unfoldable pub states_of : List ℕ → ℕ → ℕ → ℕ → Walked
states_of file zero at product = Ok product
states_of file (suc left) at product =
    cond (leb (product * size_at file at) 1048576) (states_of file left (at + 1) (product * size_at file at)) (Err (Refusal.States at))
