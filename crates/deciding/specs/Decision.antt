-- What the verdict on a readable file decides (C12.9, C12.10). States are meant by their values here, where `check_of` goes by their numbers.
use Rattle.std.specs.Prelude.{◌≡◌, ◌↔◌, Bool, true, false, cond, List, [], ◌∷◌, ℕ, ◌<◌, ◌≤◌, length, ℤ}
use Rattle.diagrams.specs.declared.Diagram.{Diagram}
use Rattle.diagrams.specs.Diagram.{State, state_at, state_number}
use Rattle.diagrams.specs.Start.{Readable}
use Rattle.conditions.specs.Condition.{each, total_of, condition_at, Listed, refusal_number, node_number, transition_number}
use Rattle.conditions.specs.declared.Condition.{Condition}
use Rattle.testing.specs.Holding.{condition_holds}
use Rattle.report.specs.declared.Verdict.{Verdict}

-- for C8.14: a condition is true: it holds in every state, whatever its values are
abbrev pub Everywhere : List ℕ → Diagram → Condition → Type 0
Everywhere file g c = (state : List ℤ) → State g state → condition_holds file g c state ≡ true

-- for C12.9: the verdict names the first untrue condition, with a state that breaks it; every state with a lower number passes
pub record Names (file : List ℕ) (g : Diagram) (v : Verdict) : Type 0 where
  pub below : v.at < total_of file g
  pub number : v.number ≡ refusal_number (condition_at file g v.at)
  pub node : v.node ≡ node_number (condition_at file g v.at)
  pub transition : v.transition ≡ transition_number (condition_at file g v.at)
  pub first : (k : ℕ) → k < v.at → Everywhere file g (condition_at file g k)
  pub state : State g v.values
  pub breaks : condition_holds file g (condition_at file g v.at) v.values ≡ false
  pub lowest : (s : List ℤ) → State g s → state_number g s < state_number g v.values
      → condition_holds file g (condition_at file g v.at) s ≡ true

-- ---- the tests made
-- for C12.10: a list up to the first element that fails the test, which is then its last
unfoldable pub up_to_failing : {A : Type 0} → (A → Bool) → List A → List A
up_to_failing test [] = []
up_to_failing test (x ∷ rest) = x ∷ cond (test x) (up_to_failing test rest) []

-- for C12.10: all tests, each by the numbers of its condition and of its state, the states of a condition before the next condition
unfoldable pub tests_in_order : ℕ → ℕ → List (ℕ × ℕ)
tests_in_order total states = each (λ c. each (λ n. (c, n) ∷ []) states 0) total 0

-- C12.10: those that are made
unfoldable pub tests_made : List ℕ → Diagram → List (ℕ × ℕ)
tests_made file g =
    up_to_failing (λ (test : ℕ × ℕ). condition_holds file g (condition_at file g test.0) (state_at g test.1))
    (tests_in_order (total_of file g) g.states)

-- ---- the verdict
-- C12.9: accepted exactly if every condition is true; otherwise one is named; and the tests (C12.10)
pub record Judges (file : List ℕ) (g : Diagram) (v : Verdict) : Type 0 where
  pub accepts : (v.number ≡ 0) ↔ ((c : Condition) → Listed file g c → Everywhere file g c)
  pub names : (v.number ≡ 0 → ⊥) → Names file g v
  pub tests : v.tests ≡ length (tests_made file g)

-- C12.9: of any file, and a report buffer of `room` bytes
abbrev pub Decides : List ℕ → ℕ → Verdict → Type 0
Decides file room v = (g : Diagram) → Readable file g → 32 ≤ room → Judges file g v
