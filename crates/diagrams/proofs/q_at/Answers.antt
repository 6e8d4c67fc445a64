-- `diagrams::q_at` meets its contract: the property's expression of that number.
use mathlib.Core.Path.{ap, ◌∙◌}
use native.Mathlib.Omega.{arith}
use Rattle.diagrams.specs.Truth.{claimed_at, q_at}
use Rattle.diagrams.proofs.Steps.Diagram.{keeps}
use Rattle.diagrams.proofs.q_at.Goals as goal

pub q_number-requires : goal.q_number-requires
q_number-requires c = omega (arith, (keeps c.requires.loaded).nodes.1)

pub returns : goal.returns
unfolding q_at
returns c = c.claimed_at.ensures ∙ ap (claimed_at _ _) c.q_number.ensures
