-- `successors::reach`: what is left to be made of m is what all the updates make of the box (`Left`). Assumes nothing.
use Prim.Native.Nat.{◌-◌, ◌/◌}
use lib.ListN.{length}
use Rattle.successors.specs.Successor.{targets_from, reached_by, start}
use Rattle.successors.proofs.Steps.Successor.{Left}
use Rattle.successors.proofs.reach.Given as goal

abbrev pub invariant-loop : goal.invariant-loop
invariant-loop l = Left l.ranges l.file l.b (reached_by l.ranges (targets_from l.file (length l.file / 8) l.first l.b) (start l.b)) l.m l.at (length l.file / 8 - l.counter)
