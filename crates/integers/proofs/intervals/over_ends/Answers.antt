-- `integers::intervals::over_ends` meets its contract: each end is in bounds, and each call's result is the operation's. Assumes nothing.
use borrow.Author.Rules.{rules}
use Rattle.integers.specs.Interval.{over_ends}
use Rattle.integers.proofs.intervals.over_ends.Goals as goal

pub f-requires-3 : goal.f-requires-3
f-requires-3 g c = let i = c.requires.left in let j = c.requires.right in search (rules, c.requires.callable)

pub f-requires-4 : goal.f-requires-4
f-requires-4 g c = let i = c.requires.left in let j = c.requires.right in search (rules, c.requires.callable)

pub returns : goal.returns
unfolding over_ends
returns g c = λ op h. let i = c.requires.left in let j = c.requires.right in search (rules, h)
