-- The transition at record `at`, as the code answers of it: the ends between which its successors lie, or why it has none.
use Rattle.std.specs.Prelude.{List, [], Option, None, Some, Bool, true, false, cond, ◌&&◌, ℕ, ◌+◌, ℤ}
use Rattle.states.specs.Number.{states_between}
use Rattle.expressions.specs.Expression.{part_at, truth}
use Rattle.evaluating.specs.declared.Update.{Update}
use Rattle.evaluating.specs.declared.Ends.{Ends}
use Rattle.evaluating.specs.declared.Stepped.{Stepped}
use Rattle.evaluating.specs.declared.Stepped.TheVariants.{Blocked, OutOfRange, To}
use Rattle.evaluating.specs.Transition.{all_in_range, lowest, highest, update_list}

unfoldable pub guard_of : List ℕ → ℕ → List ℤ → Bool
guard_of file at state = truth 16 (part_at file (at + 1)) state

unfoldable pub enabled_of : List ℤ → List ℤ → List ℕ → ℕ → List ℤ → Bool
enabled_of lows highs file at state = guard_of file at state && all_in_range lows highs (update_list file at state)

-- the ends between which its successors lie
unfoldable pub lowest_of : List ℕ → ℕ → List ℤ → List ℤ
lowest_of file at state = lowest (update_list file at state) state

unfoldable pub highest_of : List ℕ → ℕ → List ℤ → List ℤ
highest_of file at state = highest (update_list file at state) state

unfoldable pub successors_of : List ℤ → List ℤ → List ℕ → ℕ → List ℤ → List (List ℤ)
successors_of lows highs file at state = cond (enabled_of lows highs file at state) (states_between (lowest_of file at state) (highest_of file at state)) []

abbrev pub ends : List ℤ → List ℤ → Ends
ends low high = record { low = low; high = high }

unfoldable pub updated_by : List ℤ → List ℤ → List Update → List ℤ → Option Ends
updated_by lows highs list state = cond (all_in_range lows highs list) (Some (ends (lowest list state) (highest list state))) None

unfoldable pub step_of : List ℤ → List ℤ → List ℕ → ℕ → List ℤ → Stepped
step_of lows highs file at state =
    cond (guard_of file at state)
    (cond (all_in_range lows highs (update_list file at state)) (To (ends (lowest_of file at state) (highest_of file at state))) OutOfRange)
    Blocked

-- of such an answer: whether the guard is true, whether the transition is enabled, and the ends, the state as it was for both where it is not
unfoldable pub guard_in : Stepped → Bool
guard_in Blocked = false
guard_in OutOfRange = true
guard_in (To x) = true

unfoldable pub enabled_in : Stepped → Bool
enabled_in Blocked = false
enabled_in OutOfRange = false
enabled_in (To x) = true

unfoldable pub ends_in : Stepped → List ℤ → Ends
ends_in Blocked state = ends state state
ends_in OutOfRange state = ends state state
ends_in (To x) state = x
