-- A system with a pick: which successors there are, what is taken, and claims that a pick makes false. A claim about one of the successors only would be
-- true of these files.
--     picked              each value of the pick, in order, and no other; none where the transition is disabled (C5.3, C5.6)
--     taken_idle          idling takes a transition that may pick the values at hand (C6.4)
--     idle_just           so to idle there for ever is to be k-just for each k (C6.6)
--                           claim
--     never_left          false     a chain whose step may pick the values at hand
--     lowest_left         false     an invariance that only the pick's lowest value breaks
--     highest_left        false     only its highest
-- Assumes nothing.
use mathlib.Core.Path.{◌≡◌, refl}
use mathlib.Core.Logic.{inl, inr}
use mathlib.Core.List.{List, [], ◌∷◌}
use Prim.Native.Nat.{ℕ, zero, suc, ◌+◌, ◌≤◌}
use native.Mathlib.Omega.{arith}
use lib.Dec.{lit<, lit≤}
use Rattle.diagrams.specs.System.{next_states}
use Rattle.diagrams.proofs.Files.{double, plain}
use Rattle.diagrams.proofs.Values.{v, state}
use Rattle.runs.specs.Run.{System, finite, Taken, KJust}
use Rattle.soundness.specs.System.{system_of, Claim}
use Rattle.soundness.proofs.Sharp.Computing.{claiming}
use Rattle.soundness.proofs.Laws.System.{step_run, idle_run}
use Rattle.soundness.proofs.Sharp.Files.{Case, is, invariance, chain, picking, file, diagram, loaded, refuted}

-- ---- the system, with a chain from v = 1 to another value: its step is just and enabled, and may lead back
abbrev not : List (List ℕ) → List (List ℕ)
not x = plain 0x22 ∷ x

abbrev onward : Case
onward = picking (chain (is 1) (not (is 1)) (not (is 1) ∷ is 1 ∷ []) (double 0 1 0 ∷ []))

abbrev M : System
M = system_of (file onward) (diagram onward)

pub picked : (next_states (file onward) (diagram onward) 0 (v 1) ≡ v 0 ∷ v 1 ∷ v 2 ∷ []) × (next_states (file onward) (diagram onward) 0 (v 0) ≡ [])
unfolding claiming
picked = (refl, refl)

pub taken_idle : (n : ℕ) → Taken M 0 (λ i. v 1) n
unfolding claiming
taken_idle n = (tt, inr (inl refl))

pub idle_just : (k : ℕ) → 1 ≤ k → KJust M k (λ i. v 1)
unfolding claiming
idle_just k one zero l just n = (0, omega arith, inr (taken_idle (n + 0)))
idle_just k one (suc t) l just n = absurd (omega arith)

pub never_left : Claim (file onward) → ⊥
unfolding claiming
never_left = refuted onward refl (λ c.
    let run = idle_run (file onward) (diagram onward) (v 1) (state (lit≤ tt)) in
    (c.0.bounded 1 (omega arith) (λ i. v 1) run (idle_just 1 (omega arith)) 0 tt).2.2)

-- ---- invariances: v is not n, from v = 1 on
abbrev avoids : List (List ℕ) → Case
avoids q = picking (invariance q (q ∷ []))

pub lowest_left : Claim (file (avoids (not (is 0)))) → ⊥
unfolding claiming
lowest_left = refuted (avoids (not (is 0))) refl (λ c.
    let run = step_run (file (avoids (not (is 0)))) (diagram (avoids (not (is 0)))) (loaded (avoids (not (is 0))) refl) (v 1) (state (lit≤ tt)) 0 (lit< tt) (v 0)
    (tt, inl refl) in
    c.0 (finite (v 1) (v 0 ∷ [])) run tt 1 (lit< tt))

pub highest_left : Claim (file (avoids (not (is 2)))) → ⊥
unfolding claiming
highest_left = refuted (avoids (not (is 2))) refl (λ c.
    let run = step_run (file (avoids (not (is 2)))) (diagram (avoids (not (is 2)))) (loaded (avoids (not (is 2))) refl) (v 1) (state (lit≤ tt)) 0 (lit< tt) (v 2)
    (tt, inr (inr (inl refl))) in
    c.0 (finite (v 1) (v 2 ∷ [])) run tt 1 (lit< tt))
