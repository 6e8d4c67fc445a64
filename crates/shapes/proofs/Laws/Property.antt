-- Laws of the table of properties.
--     known_claims        the claims that there are (C1.10)
--     unknown             there is no other
--     invariance_row, wait_for_row, chain_row     the row of each
--     from_most           conditions of range and step begin at node 0 or 1
--     entry_from          at node 1 exactly where p stands before q: node 0 is then the goal (C8.2)
--     doubles_from        so where edges may be double
-- Assumes nothing.
use mathlib.Core.Path.{◌≡◌, refl}
use mathlib.Core.Logic.{◌⊎◌, inl, inr}
use mathlib.Core.Bool.{true, false, false≢true, cond}
use Prim.Native.Nat.{◌≤◌}
use native.Mathlib.Omega.{arith}
use Rattle.shapes.specs.declared.Claim.{Claim}
use Rattle.shapes.specs.declared.Claim.TheVariants.{Invariance, WaitFor, Chain, Unknown}
use Rattle.shapes.specs.Property.{property_of}

pub known_claims : (c : Claim) → (property_of c).known ≡ true → (c ≡ Invariance) ⊎ ((c ≡ WaitFor) ⊎ (c ≡ Chain))
unfolding property_of
known_claims Invariance k = inl refl
known_claims WaitFor k = inr (inl refl)
known_claims Chain k = inr (inr refl)
known_claims Unknown k = absurd (false≢true k)

pub unknown : (property_of Unknown).known ≡ false
unfolding property_of
unknown = refl

pub invariance_row : property_of Invariance
    ≡ record { known = true; phased = false; entry = false; covered = true; from = 0; rising = true; doubles = false; ranks = 0 }
unfolding property_of
invariance_row = refl

pub wait_for_row : property_of WaitFor
    ≡ record { known = true; phased = true; entry = true; covered = true; from = 1; rising = false; doubles = false; ranks = 0 }
unfolding property_of
wait_for_row = refl

pub chain_row : property_of Chain ≡ record { known = true; phased = false; entry = true; covered = false; from = 1; rising = false; doubles = true; ranks = 0 }
unfolding property_of
chain_row = refl

pub from_most : (c : Claim) → (property_of c).from ≤ 1
unfolding property_of
from_most Invariance = omega arith
from_most WaitFor = omega arith
from_most Chain = omega arith
from_most Unknown = omega arith

pub entry_from : (c : Claim) → (property_of c).from ≡ cond (property_of c).entry 1 0
unfolding property_of
entry_from Invariance = refl
entry_from WaitFor = refl
entry_from Chain = refl
entry_from Unknown = refl

pub doubles_from : (c : Claim) → (property_of c).doubles ≡ true → (property_of c).from ≡ 1
unfolding property_of
doubles_from Invariance d = absurd (false≢true d)
doubles_from WaitFor d = absurd (false≢true d)
doubles_from Chain d = refl
doubles_from Unknown d = absurd (false≢true d)
