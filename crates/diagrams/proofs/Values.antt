-- The states of a file whose one variable v is in 0..2.
--     v                     v is n
--     state, state_most     it is a state exactly if n is at most 2
-- Assumes nothing.
use mathlib.Core.List.{List, ◌∷◌}
use Prim.Native.Nat.{ℕ, zero, suc, ◌≤◌, zero-le}
use lib.Dec.{leb→le, le→leb}
use lib.IntN.{ℤ, pos}
use lib.ListN.{replicate}
use lib.Signed.{le_z_yes, ≤ℤ_refl}
use Rattle.states.specs.State.{Within, none, more}

abbrev pub v : ℕ → List ℤ
v n = pos n ∷ replicate 11 (pos 0)

zeros : (n : ℕ) → Within (replicate n (pos 0)) (replicate n (pos 0)) (replicate n (pos 0))
zeros zero = none
zeros (suc n) = more (≤ℤ_refl (pos 0)) (≤ℤ_refl (pos 0)) (zeros n)

pub state : {n : ℕ} → n ≤ 2 → Within (v 0) (v 2) (v n)
state {n} h = more (le_z_yes (le→leb 0 n zero-le)) (le_z_yes (le→leb n 2 h)) (zeros 11)

pub state_most : {n : ℕ} → Within (v 0) (v 2) (v n) → n ≤ 2
state_most {n} (more low high rest) = leb→le n 2 high.le
