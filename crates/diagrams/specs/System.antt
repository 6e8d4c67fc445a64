-- The transitions of a file with diagram g, in a state.
use Rattle.std.specs.Prelude.{Bool, cond, ◌&&◌, List, [], ℕ, ◌+◌, get_or, ℤ, eqb}
use Rattle.records.specs.Record.{field_a}
use Rattle.expressions.specs.Expression.{holds_of}
use Rattle.states.specs.Number.{states_between}
use Rattle.evaluating.specs.Transition.{update_list, all_in_range, lowest, highest}
use Rattle.diagrams.specs.declared.Diagram.{Diagram}

-- for C1.8: where transition t stands
abbrev pub step_at : Diagram → ℕ → ℕ
step_at g t = get_or g.steps t 0

-- C5.5: its a is 1
unfoldable pub just_of : List ℕ → Diagram → ℕ → Bool
just_of file g t = eqb (field_a file (step_at g t)) 1

-- for C5.2: its guard is true, the truth behind its record
unfoldable pub guard_holds : List ℕ → Diagram → ℕ → List ℤ → Bool
guard_holds file g t state = holds_of file (step_at g t + 1) state

-- for C5.2: each value that it assigns is in range
unfoldable pub values_fit : List ℕ → Diagram → ℕ → List ℤ → Bool
values_fit file g t state = all_in_range g.low g.high (update_list file (step_at g t) state)

-- C5.2: the transition is enabled
unfoldable pub is_enabled : List ℕ → Diagram → ℕ → List ℤ → Bool
is_enabled file g t state = guard_holds file g t state && values_fit file g t state

-- C5.3, C5.6: its successors, where it is enabled the states between the lowest and the highest values that it may give
unfoldable pub next_states : List ℕ → Diagram → ℕ → List ℤ → List (List ℤ)
next_states file g t state =
    let updates = update_list file (step_at g t) state in
    cond (is_enabled file g t state) (states_between (lowest updates state) (highest updates state)) []
