-- `testing::test_of` meets its contract, by the condition.
-- Assumes nothing.
use mathlib.Core.Path.{◌≡◌, ◌∙◌}
use mathlib.Core.List.{List}
use Rattle.diagrams.specs.declared.Diagram.{Diagram}
use Rattle.diagrams.specs.Diagram.{Loaded}
use Rattle.conditions.specs.Condition.{Listed}
use Prim.Native.Nat.{ℕ, ◌≤◌, ◌<◌}
use native.Mathlib.Omega.{arith}
use lib.ListN.{get_or}
use Rattle.conditions.specs.declared.Condition.{Condition}
use Rattle.conditions.proofs.Laws.Condition.{Parts}
use Rattle.testing.proofs.Steps.Testing.{parts_of, keeps, test_step}
use Rattle.testing.proofs.test_of.Goals as goal

module _ {file : List ℕ} {g : Diagram} (r : Loaded file g) where
  few : g.nodes ≤ 32
  few = (keeps _ _ r).nodes.1

  -- the assertions of the nodes are records of the file
  small : (n : ℕ) → n < g.nodes → get_or g.assertions n 0 ≤ 4096
  small n l = ((keeps _ _ r).assertion n l).small

  -- what the condition speaks of is there
  parts : {c d : Condition} → Listed file g c → c ≡ d → Parts g d
  parts l e = parts_of _ _ r l e

  -- a node and a transition that are there are below 32
  below : {n t : ℕ} → (n < g.nodes) × (t < g.transitions) → (n < 32) × (t < 32)
  below p = (omega (arith, p.0, few), omega (arith, p.1, (keeps _ _ r).transitions))

pub choose-all-requires : goal.choose-all-requires
choose-all-requires c = record { most = few c.requires.loaded; small = small c.requires.loaded }

pub choose-all-requires-in-Entry : goal.choose-all-requires-in-Entry
choose-all-requires-in-Entry c = record { most = few c.requires.loaded; small = small c.requires.loaded }

pub choose-requires : goal.choose-requires
choose-requires c = record { most = few c.requires.loaded; small = small c.requires.loaded }

pub q_at-requires-clause-there : goal.q_at-requires-clause-there
q_at-requires-clause-there c = parts c.requires.loaded c.requires.listed c.in-Cover.is

pub one-q-requires : goal.one-q-requires
one-q-requires c =
    rw c.q_at.ensures ((keeps _ _ c.requires.loaded).q _ (parts c.requires.loaded c.requires.listed c.in-Cover.is)).small

pub offset_bounds-assertions-n : goal.offset_bounds-assertions-n
offset_bounds-assertions-n c = omega (arith, parts c.requires.loaded c.requires.listed c.in-Cover.is, few c.requires.loaded)

pub bounds-assertions-n : goal.bounds-assertions-n
bounds-assertions-n c = omega (arith, parts c.requires.loaded c.requires.listed c.in-Cover.is, few c.requires.loaded)

pub of_transition-requires : goal.of_transition-requires
of_transition-requires c = below c.requires.loaded (parts c.requires.loaded c.requires.listed c.in-Range.is)

pub marks-marks-requires-clause-there : goal.marks-marks-requires-clause-there
marks-marks-requires-clause-there c = (parts c.requires.loaded c.requires.listed c.in-Step.is).0

pub of_transition-requires-in-Step : goal.of_transition-requires-in-Step
of_transition-requires-in-Step c = below c.requires.loaded (parts c.requires.loaded c.requires.listed c.in-Step.is)

pub of_transition-requires-in-Enabling : goal.of_transition-requires-in-Enabling
of_transition-requires-in-Enabling c = below c.requires.loaded (parts c.requires.loaded c.requires.listed c.in-Enabling.is)

pub returns-in-Step : goal.returns-in-Step
returns-in-Step c =
    let e = c.in-Step.is in
    c.of_transition-in-Step.ensures
    ∙ test_step _ _ c.requires.loaded e (parts c.requires.loaded c.requires.listed e).1 c.double_of.ensures c.marks-marks.ensures
    c.choose.ensures
