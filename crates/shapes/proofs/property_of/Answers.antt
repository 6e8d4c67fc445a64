-- `shapes::property_of` meets its contract: each claim's row.
-- Assumes nothing.
use Rattle.shapes.specs.Property.{property_of}
use Rattle.shapes.proofs.property_of.Goals as goal

pub returns-in-Invariance : goal.returns-in-Invariance
unfolding property_of
returns-in-Invariance c = rw c.in-Invariance.is

pub returns-in-WaitFor : goal.returns-in-WaitFor
unfolding property_of
returns-in-WaitFor c = rw c.in-WaitFor.is

pub returns-in-Chain : goal.returns-in-Chain
unfolding property_of
returns-in-Chain c = rw c.in-Chain.is

pub returns-in-Unknown : goal.returns-in-Unknown
unfolding property_of
returns-in-Unknown c = rw c.in-Unknown.is
