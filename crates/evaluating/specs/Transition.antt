-- What a transition does in a state. It stands at a record; its guard follows, then its updates: assignments, each a record and the number behind it, and
-- picks, each a record.
use Rattle.std.specs.Prelude.{List, [], ◌∷◌, Bool, true, cond, ◌&&◌, ℕ, zero, suc, ◌+◌, ◌/◌, length, get_or, set, ℤ, pos}
use Rattle.integers.specs.Interval.{between}
use Rattle.records.specs.Record.{field_a, value_b, value_c, kind_is}
use Rattle.sections.specs.Section.{is_update}
use Rattle.expressions.specs.Expression.{part_at, number, behind}
use Rattle.evaluating.specs.declared.Update.{Update}

-- C5.1: the assignment at record `at` (C1.9): it gives its variable one value, worked out from the state
unfoldable pub assignment_at : List ℕ → ℕ → List ℤ → Update
assignment_at file at state =
    let x = number 16 (part_at file (at + 1)) state in
    record { variable = field_a file at; low = x; high = x; end = behind file (at + 1) }

-- for C5.3: the pick at record `at` (C1.16)
unfoldable pub pick_at : List ℕ → ℕ → Update
pick_at file at = record { variable = field_a file at; low = value_b file at; high = value_c file at; end = at + 1 }

unfoldable pub update_at : List ℕ → ℕ → List ℤ → Update
update_at file at state = cond (kind_is file 0x08 at) (pick_at file at) (assignment_at file at state)

-- for C1.8: those from record `at` on, n at most, as long as there is one
unfoldable pub updates_from : List ℕ → ℕ → ℕ → List ℤ → List Update
updates_from file zero at state = []
updates_from file (suc n) at state =
    cond (is_update file at) (update_at file at state ∷ updates_from file n (update_at file at state).end state) []

-- for C1.8: those of the transition at record `at`, which are no more than the file has records
unfoldable pub update_list : List ℕ → ℕ → List ℤ → List Update
update_list file at state = updates_from file (length file / 8) (behind file (at + 1)) state

-- for C5.2: x is in the range of variable i, and each value in that of its variable
unfoldable pub in_range_of : List ℤ → List ℤ → ℕ → ℤ → Bool
in_range_of lows highs i x = between (get_or lows i (pos 0)) (get_or highs i (pos 0)) x

unfoldable pub all_in_range : List ℤ → List ℤ → List Update → Bool
all_in_range lows highs [] = true
all_in_range lows highs (u ∷ rest) =
    in_range_of lows highs u.variable u.low && in_range_of lows highs u.variable u.high && all_in_range lows highs rest

-- for C5.3: variables that are set have this value of their update, and the others are as they were
unfoldable pub updated : (Update → ℤ) → List Update → List ℤ → List ℤ
updated value [] state = state
updated value (u ∷ rest) state = updated value rest (set state u.variable (value u))

-- for C5.3: the lowest of the values that variables may have, and the highest: a pick chooses between its own
abbrev pub lowest : List Update → List ℤ → List ℤ
lowest = updated (λ u. u.low)

abbrev pub highest : List Update → List ℤ → List ℤ
highest = updated (λ u. u.high)
