-- A condition prepared for its tests: where in the file its premise, its transition and its targets stand. That a prepared test says what the
-- condition says is a law (proofs/Laws/Testing.antt).
use Rattle.std.specs.Prelude.{◌≡◌, Bool, true, false, not, cond, ◌&&◌, ◌||◌, List, [], ◌∷◌, ◌++◌, ℕ, zero, suc, ◌+◌, ◌-◌, ◌≤◌, ◌<◌, length, get_or, take, replicate, eqb, ℤ}
use Rattle.diagrams.specs.declared.Diagram.{Diagram}
use Rattle.truths.specs.Search.{any}
use Rattle.truths.specs.Listed.{all_pass}
use Rattle.truths.specs.Table.{tabulate}
use Rattle.diagrams.specs.Diagram.{edge_of}
use Rattle.diagrams.specs.Truth.{claimed_at, q_at}
use Rattle.diagrams.specs.System.{step_at}
use Rattle.expressions.specs.Expression.{holds_of}
use Rattle.expressions.specs.Fits.{TruthFits}
use Rattle.states.specs.State.{Within}
use Rattle.evaluating.specs.Step.{guard_of, enabled_of, successors_of}
use Rattle.evaluating.specs.Fits.{TransitionFits}
use Rattle.conditions.specs.Edges.{carries, is_double}
use Rattle.truths.specs.Truth.{implies}
use Rattle.conditions.specs.declared.Condition.{Condition}
use Rattle.conditions.specs.declared.Condition.TheVariants.{Start, Entry, Cover, Range, Step, Enabling}
use Rattle.testing.specs.declared.Conclusion.{Conclusion}
use Rattle.testing.specs.declared.Targets.{Targets}
use Rattle.testing.specs.declared.Test.{Test}
use Rattle.boxes.specs.declared.Box.{Box}
use Rattle.domains.specs.declared.seen.Seen.{Seen}
use Rattle.domains.specs.declared.seen.Seen.TheVariants.{No}
use Rattle.domains.specs.Seen.{both_of, either_of, implies_in, implied_in}
use Rattle.enclosures.specs.Enclosure.{seen_of}
use Rattle.successors.specs.Successor.{move_of}

-- ---- the targets of a condition
-- the nodes that a step of transition t from node n may lead to: targets of its edges, and node n itself where it may keep it
unfoldable pub marks_of : List ℕ → Diagram → ℕ → ℕ → Bool → List Bool
marks_of file g n t keep =
    tabulate (λ j. (keep && eqb j n) || any (λ e. carries n t (edge_of file g e) && eqb (edge_of file g e).to j) g.edges 0) 32 0

-- where the assertions of the marked among the n nodes from `at` on stand
unfoldable pub chosen_from : List Bool → List ℕ → ℕ → ℕ → List ℕ
chosen_from marks assertions zero at = []
chosen_from marks assertions (suc n) at =
    cond (get_or marks at false) (get_or assertions at 0 ∷ chosen_from marks assertions n (at + 1)) (chosen_from marks assertions n (at + 1))

-- a list of places as 32 of them, zeros beyond
unfoldable pub targets_of : List ℕ → Targets
targets_of list = record { places = list ++ replicate (32 - length list) 0; count = length list }

unfoldable pub chosen_of : List Bool → List ℕ → ℕ → Targets
chosen_of marks assertions n = targets_of (chosen_from marks assertions n 0)

-- ---- the test of a condition
unfoldable pub prepared_of : ℕ → Conclusion → ℕ → Targets → Test
prepared_of premise conclusion transition targets =
    record { premise = premise; conclusion = conclusion; transition = transition; targets = targets }

-- where the assertion of node n stands
abbrev assertion_at : Diagram → ℕ → ℕ
assertion_at g n = get_or g.assertions n 0

abbrev some_of : Diagram → List Bool → Targets
some_of g marks = chosen_of marks g.assertions g.nodes

unfoldable pub test_of : List ℕ → Diagram → Condition → Test
test_of file g Start = prepared_of g.start Conclusion.SomeTarget 0 (some_of g (replicate 32 true))
test_of file g Entry = prepared_of (claimed_at file g 0) Conclusion.SomeTarget 0 (some_of g (replicate 32 true))
test_of file g (Cover n) = prepared_of (assertion_at g n) Conclusion.SomeTarget 0 (targets_of (q_at file g n ∷ []))
test_of file g (Range n t) = prepared_of (assertion_at g n) Conclusion.ValuesInRange (step_at g t) (targets_of [])
test_of file g (Step n t) = prepared_of (assertion_at g n) Conclusion.Reached (step_at g t) (some_of g (marks_of file g n t (not (is_double file g n t))))
test_of file g (Enabling n t) = prepared_of (assertion_at g n) Conclusion.Enabled (step_at g t) (targets_of [])

-- the test that the truth at a place is false: it implies one of no targets
unfoldable pub denial_of : ℕ → Test
denial_of at = prepared_of at Conclusion.SomeTarget 0 (targets_of [])

-- ---- what a test says, of a state and of a box
-- one of the truths at the places listed holds
unfoldable pub some_holds : List ℕ → List ℕ → List ℤ → Bool
some_holds file [] state = false
some_holds file (at ∷ places) state = holds_of file at state || some_holds file places state

-- what is seen of that
unfoldable pub some_in : List ℕ → List ℕ → Box → Seen
some_in file [] b = No
some_in file (at ∷ places) b = either_of (seen_of file at b) (some_in file places b)

abbrev pub listed : Targets → List ℕ
listed targets = take targets.count targets.places

abbrev pub targets_listed : Test → List ℕ
targets_listed test = listed test.targets

-- what the premise must imply
unfoldable pub concludes_of : List ℤ → List ℤ → List ℕ → Test → Conclusion → List ℤ → Bool
concludes_of lows highs file test Conclusion.SomeTarget state = some_holds file (targets_listed test) state
concludes_of lows highs file test Conclusion.ValuesInRange state =
    implies (guard_of file test.transition state) (enabled_of lows highs file test.transition state)
concludes_of lows highs file test Conclusion.Reached state =
    all_pass (some_holds file (targets_listed test)) (successors_of lows highs file test.transition state)
concludes_of lows highs file test Conclusion.Enabled state = enabled_of lows highs file test.transition state

-- what is seen of that; the targets of a step are looked at in the box that it leads to
unfoldable pub concludes_in : Box → List ℕ → Test → Conclusion → Box → Seen
concludes_in ranges file test Conclusion.SomeTarget b = some_in file (targets_listed test) b
concludes_in ranges file test Conclusion.ValuesInRange b = let m = move_of ranges file test.transition b in implies_in m.guard m.range
concludes_in ranges file test Conclusion.Reached b =
    let m = move_of ranges file test.transition b in implies_in (both_of m.guard m.range) (some_in file (targets_listed test) m.to)
concludes_in ranges file test Conclusion.Enabled b = let m = move_of ranges file test.transition b in both_of m.guard m.range

-- the premise implies it
unfoldable pub passes_of : List ℤ → List ℤ → List ℕ → Test → List ℤ → Bool
passes_of lows highs file test state = implies (holds_of file test.premise state) (concludes_of lows highs file test test.conclusion state)

-- what is seen of that; the conclusion is to blame first: a guard is short, and where it is false on half of the box that half is done
unfoldable pub passes_in : Box → List ℕ → Test → Box → Seen
passes_in ranges file test b = implied_in (concludes_in ranges file test test.conclusion b) (seen_of file test.premise b)

-- ---- what the code asks: what a test speaks of can be evaluated at every state
abbrev pub FitsEverywhere : List ℤ → List ℤ → List ℕ → ℕ → Type 0
FitsEverywhere lows highs file at = (state : List ℤ) → Within lows highs state → TruthFits file at state

pub record TestFits (lows highs : List ℤ) (file : List ℕ) (test : Test) : Type 0 where
  pub premise : FitsEverywhere lows highs file test.premise
  pub few : test.targets.count ≤ 32
  pub targets : (i : ℕ) → i < test.targets.count → FitsEverywhere lows highs file (get_or test.targets.places i 0)
  pub transition : (test.conclusion ≡ Conclusion.SomeTarget → ⊥)
      → (state : List ℤ) → Within lows highs state → TransitionFits file test.transition state
