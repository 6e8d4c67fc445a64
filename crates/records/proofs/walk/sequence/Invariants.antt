-- `records::walk::sequence` meets its contract. The loop's invariant: the expressions left, from `next` on, say what all of them do.
-- Assumes nothing.
use mathlib.Core.Path.{◌≡◌}
use Prim.Native.Nat.{◌-◌}
use Rattle.records.specs.Walk.{in_sequence, walk_of}
use Rattle.records.proofs.walk.sequence.Given as goal

abbrev pub invariant-loop : goal.invariant-loop
invariant-loop l = in_sequence (walk_of l.file l.vars 16 l.sort) l.n l.at ≡ in_sequence (walk_of l.file l.vars 16 l.sort) (l.n - l.counter) l.next
