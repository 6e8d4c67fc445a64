-- The table of properties: for each claim a row, with what it asks of the property's record, of the conditions and of the edges. src/lib.rt says what each
-- field means.
use Rattle.std.specs.Prelude.{true, false, cond, ℕ, eqb}
use Rattle.shapes.specs.declared.Claim.{Claim}
use Rattle.shapes.specs.declared.Claim.TheVariants.{Invariance, WaitFor, Chain, Unknown}
use Rattle.shapes.specs.declared.Property.{Property}

-- C1.10: what a property claims, by its a
unfoldable pub claim_of : ℕ → Claim
claim_of a = cond (eqb a 1) Invariance (cond (eqb a 2) WaitFor (cond (eqb a 3) Chain Unknown))

-- for C1.11, C1.12, C8.2, C8.4 to C8.6 and the edge rules, C9.1 to C9.9: the row of each claim; an unknown one is refused (C10.4)
unfoldable pub property_of : Claim → Property
property_of Invariance = record { known = true; phased = false; entry = false; covered = true; from = 0; rising = true; doubles = false; ranks = 0 }
property_of WaitFor = record { known = true; phased = true; entry = true; covered = true; from = 1; rising = false; doubles = false; ranks = 0 }
property_of Chain = record { known = true; phased = false; entry = true; covered = false; from = 1; rising = false; doubles = true; ranks = 0 }
property_of Unknown = record { known = false; phased = false; entry = false; covered = false; from = 0; rising = false; doubles = false; ranks = 0 }
