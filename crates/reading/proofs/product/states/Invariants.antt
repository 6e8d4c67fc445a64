-- `reading::product::states`: what the variables left make of the product so far is what all of them make of 1; the product so far is at most 1,048,576.
-- Assumes nothing.
use mathlib.Core.Path.{◌≡◌}
use Prim.Native.Nat.{◌-◌, ◌≤◌}
use Rattle.reading.specs.States.{states_of}
use Rattle.reading.proofs.product.states.Given as goal

abbrev pub invariant-loop-at : goal.invariant-loop-at
invariant-loop-at l = (states_of l.file l.vars 0 1 ≡ states_of l.file (l.vars - l.at) l.at l.product) × (l.product ≤ 1048576)
