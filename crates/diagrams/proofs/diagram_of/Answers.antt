-- `diagrams::diagram_of` meets its contract: each field is what its function answers.
use mathlib.Core.Path.{ap, ◌∙◌}
use native.Mathlib.Omega.{arith}
use Rattle.shapes.specs.Property.{property_of}
use Rattle.diagrams.specs.Diagram.{diagram_of}
use Rattle.diagrams.proofs.Steps.Diagram.{vars_few, count_asks, nodes_ask, assertions_ask, transitions_ask, property_asks}
use Rattle.diagrams.proofs.diagram_of.Goals as goal

pub lows-low-requires : goal.lows-low-requires
lows-low-requires c = vars_few _ _ c.requires

pub highs-high-requires : goal.highs-high-requires
highs-high-requires c = vars_few _ _ c.requires

pub claim_at-claim-requires : goal.claim_at-claim-requires
claim_at-claim-requires c = (property_asks _ _ c.requires).0

pub node_places-nodes-requires : goal.node_places-nodes-requires
node_places-nodes-requires c = nodes_ask _ _ c.requires

pub assertions-assertions-requires : goal.assertions-assertions-requires
assertions-assertions-requires c =
    let row = c.property_of-property.ensures ∙ ap property_of c.claim_at-claim.ensures in
    let asks = assertions_ask _ _ c.requires row c.node_places-nodes.ensures in
    record { most = asks.0; small = asks.1 }

pub transition_places-steps-requires : goal.transition_places-steps-requires
transition_places-steps-requires c = transitions_ask _ _ c.requires

pub count-requires : goal.count-requires
count-requires c =
    let asks = count_asks _ _ c.requires c.lows-low.ensures c.highs-high.ensures in
    record { ranges = asks.0; most = asks.1 }

pub overflow_add-result : goal.overflow_add-result
overflow_add-result c = omega (arith, vars_few _ _ c.requires)

pub overflow_add-result-2 : goal.overflow_add-result-2
overflow_add-result-2 c =
    let asks = property_asks _ _ c.requires in
    omega (arith, asks.0, asks.1)

pub returns : goal.returns
unfolding diagram_of
returns c =
    let row = c.property_of-property.ensures in
    let low = c.lows-low.ensures in
    let high = c.highs-high.ensures in
    let nodes = c.node_places-nodes.ensures in
    let assertions = c.assertions-assertions.ensures in
    rw (c.count.ensures, low, high, assertions, nodes, row, c.transition_places-steps.ensures, c.claim_at-claim.ensures)
