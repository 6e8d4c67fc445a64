-- The system of a file is the one that its records say: each component, at each state of the system of Files.antt.
--     in_states       a state gives v a value in its range (C4.1)
--     start           true at v = 1 (C6.3)
--     transitions     all
--     just            the last, not the first (C5.5)
--     guard, fits     each transition's own, in the order v = 0, v = 1, v = 2 (C5.2)
--     assigns         each transition's own successors, and no others (C5.3); none by one that is disabled
-- Assumes nothing.
use mathlib.Core.Path.{◌≡◌, refl}
use mathlib.Core.Logic.{◌⊎◌, inl, inr}
use mathlib.Core.Bool.{true, false}
use mathlib.Core.List.{List, [], ◌∷◌, map}
use Prim.Native.Nat.{ℕ}
use native.Mathlib.Omega.{arith}
use lib.Dec.{lit≤}
use lib.IntN.{ℤ}
use Rattle.runs.specs.Run.{System}
use Rattle.soundness.specs.System.{system_of}
use Rattle.diagrams.proofs.Computing.{computing}
use Rattle.diagrams.proofs.Values.{v, state, state_most}
use Rattle.soundness.proofs.Sharp.Files.{is, invariance, file, diagram}

abbrev M : System
M = let c = invariance (is 2) (is 2 ∷ []) in system_of (file c) (diagram c)

abbrev states : List (List ℤ)
states = v 0 ∷ v 1 ∷ v 2 ∷ []

abbrev both : List ℕ
both = 0 ∷ 1 ∷ []

pub in_states : M.State (v 0) × M.State (v 1) × M.State (v 2) × (M.State (v 3) → ⊥)
unfolding computing
in_states = (state (lit≤ tt), state (lit≤ tt), state (lit≤ tt), λ w. omega (arith, state_most w))

pub start : map M.start states ≡ false ∷ true ∷ false ∷ []
unfolding computing
start = refl

pub transitions : M.transitions ≡ 2
unfolding computing
transitions = refl

pub just : map M.just both ≡ false ∷ true ∷ []
unfolding computing
just = refl

pub guard : map (λ t. map (M.guard t) states) both ≡ (true ∷ true ∷ true ∷ []) ∷ (true ∷ false ∷ false ∷ []) ∷ []
unfolding computing
guard = refl

pub fits : map (λ t. map (M.fits t) states) both ≡ (true ∷ true ∷ false ∷ []) ∷ (false ∷ true ∷ true ∷ []) ∷ []
unfolding computing
fits = refl

-- transition 1 is disabled at v = 1
pub assigns : M.Assigns 0 (v 1) (v 2) × ((s : List ℤ) → M.Assigns 0 (v 1) s → s ≡ v 2) × ((s : List ℤ) → M.Assigns 1 (v 1) s → ⊥)
unfolding computing
assigns = (inl refl, only, λ s m. m)
  where
    only : (s : List ℤ) → (s ≡ v 2) ⊎ ⊥ → s ≡ v 2
    only s (inl e) = e
    only s (inr m) = absurd m
