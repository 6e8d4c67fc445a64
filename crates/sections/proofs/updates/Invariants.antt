-- `sections::updates` meets its contract. The loop's invariant: all updates are what those from `next` on make them, with the variables marked that were
-- set before.
-- Assumes nothing.
use mathlib.Core.Path.{◌≡◌}
use lib.ListN.{replicate}
use Rattle.sections.specs.Section.{updates_of}
use Rattle.sections.proofs.updates.Given as goal

abbrev pub invariant-loop-marks : goal.invariant-loop-marks
invariant-loop-marks l = updates_of l.file l.vars 12 (replicate 12 0) l.at ≡ updates_of l.file l.vars l.left l.marks l.next

abbrev pub decreases-loop-marks : goal.decreases-loop-marks
decreases-loop-marks l = l.left
