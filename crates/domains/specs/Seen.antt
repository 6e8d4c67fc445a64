-- What is seen of a truth on a box of states: it holds in all of them, in none, or that is not known. Then there is a variable to blame.
use Rattle.std.specs.Prelude.{◌≡◌, Bool, true, false, cond, ℕ, eqb}
use Rattle.domains.specs.declared.seen.Seen.{Seen}
use Rattle.domains.specs.declared.seen.Seen.TheVariants.{Yes, No, Unsure}

-- what it says of the truth in each state of the box
unfoldable pub Says : Seen → Bool → Type 0
Says Yes b = b ≡ true
Says No b = b ≡ false
Says (Unsure v) b = Unit {0}

unfoldable pub opposite_of : Seen → Seen
opposite_of Yes = No
opposite_of No = Yes
opposite_of (Unsure v) = Unsure v

-- no if either is, else not known where either is not
unfoldable pub both_of : Seen → Seen → Seen
both_of Yes q = q
both_of No q = No
both_of (Unsure v) Yes = Unsure v
both_of (Unsure v) No = No
both_of (Unsure v) (Unsure w) = Unsure v

unfoldable pub either_of : Seen → Seen → Seen
either_of p q = opposite_of (both_of (opposite_of p) (opposite_of q))

-- what is implied counts only where the premise may be true
unfoldable pub implies_in : Seen → Seen → Seen
implies_in p q = either_of (opposite_of p) q

-- the same; what is implied is to blame before the premise
unfoldable pub implied_in : Seen → Seen → Seen
implied_in q p = either_of q (opposite_of p)

unfoldable pub same_of : Seen → Seen → Seen
same_of Yes q = q
same_of No q = opposite_of q
same_of (Unsure v) q = Unsure v

-- 23 and, 24 or, 25 implies, 26 iff
unfoldable pub connect_in : ℕ → Seen → Seen → Seen
connect_in kind p q =
    cond (eqb kind 0x23) (both_of p q)
    (cond (eqb kind 0x24) (either_of p q)
    (cond (eqb kind 0x25) (implies_in p q)
    (same_of p q)))

-- whether the left operand of a connective decides
unfoldable pub decides_of : ℕ → Seen → Bool
decides_of kind Yes = eqb kind 0x24
decides_of kind No = cond (eqb kind 0x23) true (eqb kind 0x25)
decides_of kind (Unsure v) = false

-- 20 true, 21 false
unfoldable pub literal_in : ℕ → Seen
literal_in kind = cond (eqb kind 0x20) Yes No

-- in every state
unfoldable pub sure_of : Seen → Bool
sure_of Yes = true
sure_of No = false
sure_of (Unsure v) = false

-- in no state
unfoldable pub never_of : Seen → Bool
never_of Yes = false
never_of No = true
never_of (Unsure v) = false
