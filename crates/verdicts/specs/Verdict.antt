-- The verdict on a file, and the single test.
use Rattle.std.specs.Prelude.{Bool, cond, List, ℕ, ◌+◌, ◌*◌, replicate, ltb, leb, ℤ, pos, Result, Ok, Err}
use Rattle.diagrams.specs.declared.Diagram.{Diagram}
use Rattle.shapes.specs.declared.Refusal.{Refusal}
use Rattle.shapes.specs.Refusal.{refused_number, refused_place, and_found, and_then}
use Rattle.diagrams.specs.Diagram.{found_of, diagram_of, state_at}
use Rattle.diagrams.specs.Start.{and_start}
use Rattle.truths.specs.Search.{first_failing}
use Rattle.conditions.specs.Condition.{total_of, condition_at, refusal_number, node_number, transition_number}
use Rattle.testing.specs.Holding.{condition_holds}
use Rattle.conditions.specs.declared.Condition.{Condition}
use Rattle.report.specs.declared.Verdict.{Verdict}

-- ---- verdicts
-- C12.6: no condition is named
abbrev pub unnamed_of : ℕ → ℕ → ℕ → Verdict
unnamed_of number at tests = record { number = number; node = 255; transition = 255; at = at; values = replicate 12 (pos 0); tests = tests }

-- C12.3: condition c, which has this number in the list, is named with a state
abbrev pub named_of : Condition → ℕ → List ℤ → ℕ → Verdict
named_of c number state tests =
    record { number = refusal_number c; node = node_number c; transition = transition_number c; at = number; values = state; tests = tests }

-- for C12.5: the number of the lowest state that breaks a condition, or how many states there are
unfoldable pub breaking_of : List ℕ → Diagram → Condition → ℕ
breaking_of file g c = first_failing (λ n. condition_holds file g c (state_at g n)) g.states

-- C8.14: no state breaks it
unfoldable pub is_true : List ℕ → Diagram → Condition → Bool
is_true file g c = leb g.states (breaking_of file g c)

-- C12.4: the number of the lowest broken condition, or the total
unfoldable pub broken_of : List ℕ → Diagram → ℕ
broken_of file g = first_failing (λ c. is_true file g (condition_at file g c)) (total_of file g)

-- C12.5: the number of the lowest state that breaks it
unfoldable pub broken_at : List ℕ → Diagram → ℕ
broken_at file g = breaking_of file g (condition_at file g (broken_of file g))

-- C12.7: where condition k is named, with state n of S, it has been tested up to there, and those before it at every state: k × S + n + 1; else all are
unfoldable pub tests_of : List ℕ → Diagram → ℕ
tests_of file g =
    cond (ltb (broken_of file g) (total_of file g)) (broken_of file g * g.states + broken_at file g + 1) (total_of file g * g.states)

-- C12.2, C12.3: a readable file is accepted, or a condition is named
unfoldable pub judged_of : List ℕ → Diagram → Verdict
judged_of file g =
    cond (ltb (broken_of file g) (total_of file g))
    (named_of (condition_at file g (broken_of file g)) (broken_of file g) (state_at g (broken_at file g)) (tests_of file g))
    (unnamed_of 0 (total_of file g) (tests_of file g))

-- C12.6, C12.7: a refusal without a condition costs no tests; its place is `at`
abbrev pub refused_of : Refusal → Verdict
refused_of r = unnamed_of (refused_number r) (refused_place r) 0

-- C11.1: the refusals of reading come first, then 20, then the conditions
unfoldable pub verdict_of : List ℕ → Verdict
verdict_of file = and_found refused_of (found_of file) λ o. let g = diagram_of file o in and_start refused_of file g (judged_of file g)

-- C12.1, C10.1, C11.1: the check of a file, with a report buffer of `room` bytes
unfoldable pub check_of : List ℕ → ℕ → Verdict
check_of file room = cond (ltb room 32) (refused_of Refusal.Buffer) (verdict_of file)

-- ---- the single test
-- C13.1: whether the condition holds at the state, or the refusal that meets the test
abbrev pub Single : Type 0
Single = Result Bool Refusal

-- C10.11, C10.12, C13.3: of a readable file
unfoldable pub single_judged : List ℕ → Diagram → ℕ → ℕ → Single
single_judged file g condition state =
    cond (leb (total_of file g) condition) (Err Refusal.ConditionNumber)
    (cond (leb g.states state) (Err Refusal.StateNumber)
    (Ok (condition_holds file g (condition_at file g condition) (state_at g state))))

-- C13.1, C13.2: the refusals of reading and 20 come before both
unfoldable pub single_of : List ℕ → ℕ → ℕ → Single
single_of file condition state =
    and_then (found_of file) λ o. let g = diagram_of file o in and_start Err file g (single_judged file g condition state)
