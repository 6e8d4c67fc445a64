-- What antt unfolds to compute the verdict on a file, beyond what it unfolds to compute its system and diagram.
-- Assumes nothing.
use Rattle.truths.specs.Truth
use Rattle.truths.specs.Search
use Rattle.truths.specs.Listed
use Rattle.conditions.specs.Edges
use Rattle.conditions.specs.Condition
use Rattle.testing.specs.Holding
use Rattle.diagrams.proofs.Computing.{computing}
use Rattle.verdicts.specs.Verdict
use Rattle.deciding.specs.Decision

-- `unfolding deciding` unfolds all that stands here
unfoldable pub deciding : Unit {0}
unfolding computing Search.first_failing_from Search.first_failing Edges.carries Edges.is_double
    Condition.each Condition.moves_of Condition.opening_of Condition.covered_of Condition.conditions_of Condition.total_of Condition.condition_at
    Condition.name_of
    Truth.implies Listed.all_pass Holding.some_node Holding.some_target Holding.step_leads Holding.condition_holds
    Verdict.breaking_of Verdict.is_true Verdict.broken_of
    Verdict.broken_at Verdict.tests_of Verdict.judged_of Verdict.verdict_of Verdict.check_of
    Decision.up_to_failing Decision.tests_in_order Decision.tests_made
deciding = tt
