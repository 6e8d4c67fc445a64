-- What antt unfolds to compute the reading of a file, beyond what it unfolds to compute the walk of an expression.
-- Assumes nothing.
use Rattle.integers.specs.Quotient
use Rattle.integers.specs.Interval as Ends
use Rattle.integers.specs.Radix
use Rattle.records.specs.Record
use Rattle.records.specs.Walk
use Rattle.sections.specs.Section
use Rattle.parsing.specs.Outline
use Rattle.truths.specs.Search
use Rattle.shapes.specs.Property
use Rattle.shapes.specs.Edge as Shape
use Rattle.states.specs.Number
use Rattle.reading.specs.States
use Rattle.reading.specs.Picks
use Rattle.intervals.specs.Interval
use Rattle.reading.specs.Edge
use Rattle.reading.specs.Read
use Rattle.records.proofs.Computing.{walking}

-- `unfolding reading` unfolds all that stands here
unfoldable pub reading : Unit {0}
unfolding walking Ends.min_z Ends.max_z Ends.around Ends.over_ends Ends.in_bounds Radix.offset_of
    Record.kind_is Record.same_bytes
    Section.variable_fields Section.transition_fields Section.assignment_fields Section.pick_fields Section.property_fields Section.edge_fields Section.items_of
    Section.variables_of Section.is_update Section.update_fields Section.update_of Section.updates_of Section.transition_of Section.transitions_of Section.expressions_of Section.phases_or
    Section.nodes_of Section.repeated_of Section.edges_of
    Outline.nodes_parsed Outline.property_parsed Outline.transitions_parsed Outline.start_parsed Outline.parsed_of
    Search.any Walk.refuse_first Number.size_of States.size_at States.states_of Picks.past_record Picks.picks_from Picks.picks_of
    Quotient.quotient Quotient.remainder Interval.divide Interval.divided_by
    Interval.leaf_of Interval.combine Interval.join_of Interval.own_of Interval.by_operands Interval.analysis_of Interval.analysed_from Interval.intervals_of
    Property.claim_of Property.property_of Section.phases_fit Section.edge_at
    Edge.transition_at Edge.just_of Edge.conflict_of Edge.leads_of Edge.falls_of Edge.double_rule_of Edge.rule_of Edge.rules_of
    Shape.double_from Edge.doubled_of Edge.doubles_of
    Read.stages_read Read.read_of
reading = tt
