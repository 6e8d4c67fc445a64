-- What antt unfolds to compute the walk of an expression.
-- Assumes nothing.
use mathlib.Core.List.{flatten}
use Rattle.integers.specs.Bytes
use Rattle.records.specs.Record
use Rattle.records.specs.Kind
use Rattle.records.specs.Walk

-- `unfolding walking` unfolds all that stands here
unfoldable pub walking : Unit {0}
unfolding flatten Bytes.signed16 Record.zeros_of Kind.within Kind.signature_of
    Walk.expression_fields Walk.in_sequence Walk.operands_of Walk.record_then Walk.suits Walk.divisor_then Walk.walk_of
walking = tt
