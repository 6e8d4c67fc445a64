-- `evaluating::updates`: what is left to do to the ends gives what all the updates do to `state` (`Left`). Assumes nothing.
use Prim.Native.Nat.{◌-◌, ◌/◌}
use lib.ListN.{length}
use Rattle.evaluating.specs.Transition.{updates_from}
use Rattle.evaluating.proofs.Steps.Transition.{Left}
use Rattle.evaluating.proofs.updates.Given as goal

abbrev pub invariant-loop : goal.invariant-loop
invariant-loop l = Left l.low l.high l.file l.fn.state (updates_from l.file (length l.file / 8) l.first l.fn.state) l.e l.at (length l.file / 8 - l.counter)
