-- `reading::edges::rules`: the edge at hand is one of the file's.
-- Assumes nothing.
use Rattle.reading.proofs.Steps.Edge.{edge_fits}
use Rattle.reading.proofs.edges.rules.Goals as goal

pub rule-requires : goal.rule-requires
rule-requires c = edge_fits _ _ _ _ c.requires c.transition_places-places.ensures c.loop-at.auto.at c.loop-at-test.true
