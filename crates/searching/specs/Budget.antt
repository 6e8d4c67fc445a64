-- How many boxes the search may look at for a condition.
use Rattle.std.specs.Prelude.{cond, List, ℕ, ◌+◌, ◌*◌, ◌/◌, ltb, get_or}
use Rattle.testing.specs.declared.Test.{Test}

-- the records that a box may have to look at, by the table of lengths: premise, guard, and as many targets as long as the first
unfoldable pub records_of : List ℕ → Test → ℕ
records_of spans test =
    get_or spans test.premise 0 + get_or spans (test.transition + 1) 0 + test.targets.count * get_or spans (get_or test.targets.places 0 0) 0

-- so few boxes that all of them together look at no more than two records for each state
unfoldable pub fair_of : List ℕ → Test → ℕ → ℕ
fair_of spans test states = states / (32 + records_of spans test / 2)

-- and at most so many
unfoldable pub budget_of : List ℕ → Test → ℕ → ℕ → ℕ
budget_of spans test states most = cond (ltb most (fair_of spans test states)) most (fair_of spans test states)
