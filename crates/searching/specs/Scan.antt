-- A loop over the states: how boxes let it skip, and the first state at which a test fails.
use Rattle.std.specs.Prelude.{Bool, cond, List, ℕ, ◌*◌, ltb, ℤ}
use Rattle.truths.specs.Search.{first_failing}
use Rattle.boxes.specs.Box.{box}
use Rattle.diagrams.specs.declared.Diagram.{Diagram}
use Rattle.diagrams.specs.Diagram.{state_at}
use Rattle.testing.specs.declared.Test.{Test}
use Rattle.testing.specs.Testing.{passes_of}
use Rattle.searching.specs.declared.Search.{Search}
use Rattle.searching.specs.declared.scan.Scan.{Scan}
use Rattle.searching.specs.Search.{skip_to, skip_of}
use Rattle.searching.specs.Budget.{budget_of}

-- all states of a diagram, for a test
abbrev pub search_of : Diagram → Test → Search
search_of g test = record { ranges = box g.low g.high; test = test }

abbrev pub scan_at : List ℤ → ℕ → ℕ → Scan
scan_at state number ask = record { state = state; number = number; ask = ask }

-- more than there are states: from this number on boxes are not asked
abbrev pub unasked : ℕ
unasked = 1048577

unfoldable pub ask_of : Bool → ℕ
ask_of by_boxes = cond by_boxes 1 unasked

-- 64 times as many boxes are asked as the number that they are asked from, but no more than is fair; after these, none
unfoldable pub onward_of : List ℕ → List ℕ → Search → ℕ → Scan → Scan
onward_of file spans s states from =
    let ask = from.ask * 64 in
    let boxes = budget_of spans s.test states ask in
    let found = skip_of file s states (skip_to from.state from.number) boxes in
    scan_at found.state found.number (cond (ltb boxes ask) unasked ask)

-- the number of the first state at which a test fails, or how many states there are
unfoldable pub failing_of : List ℕ → Diagram → Test → ℕ
failing_of file g test = first_failing (λ n. passes_of g.low g.high file test (state_at g n)) g.states
