-- The words of C12.9 and C12.10 determine the verdict, on three files: with a weaker word another verdict would do, with a stronger one none.
--     refused_one      B with start true and node "v = 0", broken at several conditions and states: the first condition, its lowest state, the tests
--     counted          A, whose broken condition is behind others: the tests
--     accepted_one     B, accepted: the number and the tests
-- Assumes nothing.
use mathlib.Core.Path.{◌≡◌, refl, ap, ◌∙◌}
use mathlib.Core.Bool.{false≢true}
use mathlib.Core.List.{List, flatten}
use mathlib.Core.List.Memᴰ
use Prim.Native.Nat.{ℕ}
use native.Mathlib.Omega.{arith}
use lib.Dec.{lit≤}
use lib.ListN.{set}
use Rattle.std.specs.declared.result.Result.TheVariants.{Ok}
use Rattle.diagrams.specs.declared.Diagram.{Diagram}
use Rattle.diagrams.specs.Diagram.{found_of, diagram_of, Loaded}
use Rattle.diagrams.proofs.Laws.Diagram.{diagram_loaded}
use Rattle.diagrams.proofs.Files.{A, B, constant, plain, true, o_b}
use Rattle.conditions.specs.Condition.{condition_at, refusal_number, node_number, transition_number}
use Rattle.conditions.specs.declared.Condition.TheVariants.{Start}
use Rattle.diagrams.proofs.Values.{v, state}
use Rattle.report.specs.declared.Verdict.{Verdict}
use Rattle.deciding.specs.Decision.{Names, Judges}
use Rattle.deciding.proofs.Computing.{deciding}
use Rattle.deciding.proofs.Laws.Decision.{judges, accepted, named_once}

-- A, B and what is made of B have the same outline
abbrev diagram : List ℕ → Diagram
diagram file = diagram_of file o_b

loaded : (file : List ℕ) → found_of file ≡ Ok o_b → Loaded file (diagram file)
loaded file e = diagram_loaded file o_b e

-- ---- refused
-- start (condition 0) is broken at v = 1 and v = 2, step (condition 3) at v = 0
abbrev several : List ℕ
several = flatten (set (set (set (set (set B 2 (plain 0x26)) 3 true) 4 true) 18 (plain 0x27)) 20 (constant 0))

abbrev right : Verdict
right = record { number = 13; node = 255; transition = 255; at = 0; values = v 1; tests = 2 }

pub refused_one : (w : Verdict) → Judges several (diagram several) w → w ≡ right
unfolding deciding
refused_one w j = λ i. record { number = number i; node = node i; transition = transition i; at = same.0 i; values = same.1 i; tests = j.tests i }
  where
    names : Names several (diagram several) w
    names = j.names (λ e. false≢true (j.accepts.0 e Start (Memᴰ.head refl) (v 1) (state (lit≤ tt))))

    right_names : Names several (diagram several) right
    right_names = (judges several (diagram several) (loaded several refl)).names (λ e. omega arith)

    same : (w.at ≡ 0) × (w.values ≡ v 1)
    same = named_once several (diagram several) (loaded several refl) names right_names

    number : w.number ≡ 13
    number = names.number ∙ ap (λ (k : ℕ). refusal_number (condition_at several (diagram several) k)) same.0

    node : w.node ≡ 255
    node = names.node ∙ ap (λ (k : ℕ). node_number (condition_at several (diagram several) k)) same.0

    transition : w.transition ≡ 255
    transition = names.transition ∙ ap (λ (k : ℕ). transition_number (condition_at several (diagram several) k)) same.0

pub counted : (w : Verdict) → Judges (flatten A) (diagram (flatten A)) w → w.tests ≡ 11
unfolding deciding
counted w j = j.tests

-- ---- accepted
pub accepted_one : (w : Verdict) → Judges (flatten B) (diagram (flatten B)) w → (w.number ≡ 0) × (w.tests ≡ 12)
unfolding deciding
accepted_one w j = (j.accepts.1 (accepted (flatten B) (diagram (flatten B)) (loaded (flatten B) refl) refl), j.tests)
