-- What antt unfolds to compute a file's system and diagram at a state, beyond what it unfolds to compute its reading.
-- Assumes nothing.
use Rattle.reading.proofs.Computing.{reading}
use Rattle.integers.specs.Bytes
use Rattle.integers.specs.Radix
use Rattle.integers.specs.Tests
use Rattle.records.specs.Walk
use Rattle.truths.specs.Table
use Rattle.records.specs.Place
use Rattle.states.specs.Number
use Rattle.expressions.specs.Expression
use Rattle.ranges.specs.Range
use Rattle.evaluating.specs.Transition
use Rattle.diagrams.specs.Diagram
use Rattle.diagrams.specs.Truth
use Rattle.diagrams.specs.Start
use Rattle.diagrams.specs.System

-- `unfolding computing` unfolds all that stands here
unfoldable pub computing : Unit {0}
unfolding reading Bytes.low_byte Bytes.high_byte Radix.at Tests.eq_z Walk.spans Walk.span Table.tabulate Table.table_of Place.places_of
    Expression.first_operand Expression.second_operand Expression.indicator_of Expression.connect_of Expression.compare_of
    Expression.number_by Expression.truth_by Expression.number Expression.truth Expression.holds_of Expression.behind
    Range.ends_of Number.count_of Number.state_of Number.number_of Number.states_between
    Transition.assignment_at Transition.pick_at Transition.update_at Transition.updates_from Transition.in_range_of Transition.all_in_range Transition.updated
    Transition.update_list
    Diagram.found_of Diagram.assertions_of Diagram.diagram_of Diagram.state_at Diagram.state_number Diagram.edge_of
    Truth.start_holds Truth.node_holds Truth.claimed_at Truth.p_holds Truth.q_number Truth.q_at Truth.q_holds
    Start.starts_of Start.and_start
    System.just_of System.guard_holds System.values_fit System.is_enabled System.next_states
computing = tt
