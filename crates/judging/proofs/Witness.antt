-- Nothing is claimed of an empty set: for each of the three claims (C7.1, C7.3, C7.5) an accepted file (B, H and D of C16.1) that makes it, with a run that
-- the claim speaks of: from a starting state unless said otherwise, and it idles and moves.
--     invariance_met     B: a finite run
--     wait_for_met       H: an endless run from a state where p holds, and q_0 does not hold at the four positions from there on
--     chain_met          D, whose step is just: an endless run, 2-just and just, from a state where p holds; q holds 2 × 2 steps on, and not before
--     chain_met_late     the same from v = 1, which is no starting state; q holds 1 × 2 steps on, and not before
-- Assumes nothing.
use mathlib.Core.Path.{◌≡◌, refl}
use mathlib.Core.Logic.{inl, inr}
use mathlib.Core.Bool.{not}
use mathlib.Core.List.{List, [], ◌∷◌}
use Prim.Native.Nat.{ℕ, zero, suc, ◌+◌, ◌<◌, ◌≤◌}
use native.Mathlib.Nat.{add-zero}
use native.Mathlib.Omega.{arith}
use lib.Dec.{T, lit<, lit≤}
use lib.IntN.{ℤ}
use Rattle.std.specs.declared.result.Result.TheVariants.{Ok}
use Rattle.diagrams.specs.declared.Diagram.{Diagram}
use Rattle.shapes.specs.declared.Claim.{Claim}
use Rattle.shapes.specs.declared.Outline.{Outline}
use Rattle.diagrams.specs.Diagram.{found_of, diagram_of, State}
use Rattle.diagrams.specs.Truth.{start_holds, p_holds, q_holds}
use Rattle.verdicts.specs.Verdict.{check_of}
use Rattle.runs.specs.Run.{Run, finite, endless, Position, at, Next, IsRun, DisabledOrTaken, Just, KJust}
use Rattle.runs.specs.Claim.{Waiting}
use Rattle.soundness.specs.System.{system_of}
use Rattle.diagrams.proofs.Files.{o_b, o_d, o_h}
use Rattle.diagrams.proofs.Values.{v}
use Rattle.judging.proofs.Counter.{Counter, b, g_b, d, g_d, h, g_h, B_counts, D_counts, H_counts}
use Rattle.judging.proofs.Examples.{reporting}

-- ---- runs of the counter: 0 0 1 1 2, and then 2 for ever or to the end
pub σ : ℕ → List ℤ
σ zero = v 0
σ (suc zero) = v 0
σ (suc (suc zero)) = v 1
σ (suc (suc (suc zero))) = v 1
σ (suc (suc (suc (suc n)))) = v 2

-- from its third position on
abbrev late : ℕ → List ℤ
late n = σ (suc (suc n))

abbrev listed : Run (List ℤ)
listed = finite (v 0) (v 0 ∷ v 1 ∷ v 1 ∷ v 2 ∷ [])

-- a run idles somewhere, and moves somewhere
abbrev Idles : Run (List ℤ) → Type 0
Idles r = (n : ℕ) × Position r (suc n) × (at r (suc n) ≡ at r n)

abbrev Moves : Run (List ℤ) → Type 0
Moves r = (n : ℕ) × Position r (suc n) × (at r (suc n) ≡ at r n → ⊥)

apart : {m n : ℕ} → m < n → v n ≡ v m → ⊥
apart {m} {n} l e = let z : ◌≡◌ {A = ℕ} n m = cc in absurd (omega arith)

module _ (file : List ℕ) (g : Diagram) (c : Counter file g) where
  first_move : Next (system_of file g) (v 0) (v 1)
  first_move = inr (0, rw c.transitions (omega arith), c.zero_on)

  second_move : Next (system_of file g) (v 1) (v 2)
  second_move = inr (0, rw c.transitions (omega arith), c.one_on)

  σ_run : IsRun (system_of file g) (endless σ)
  unfolding σ
  σ_run = record { states = states; steps = steps }
    where
      states : (n : ℕ) → Position (endless σ) n → State g (σ n)
      states zero p = c.states (lit≤ tt)
      states (suc zero) p = c.states (lit≤ tt)
      states (suc (suc zero)) p = c.states (lit≤ tt)
      states (suc (suc (suc zero))) p = c.states (lit≤ tt)
      states (suc (suc (suc (suc n)))) p = c.states (lit≤ tt)

      steps : (n : ℕ) → Position (endless σ) (suc n) → Next (system_of file g) (σ n) (σ (suc n))
      steps zero p = inl refl
      steps (suc zero) p = first_move
      steps (suc (suc zero)) p = inl refl
      steps (suc (suc (suc zero))) p = second_move
      steps (suc (suc (suc (suc n)))) p = inl refl

  listed_run : IsRun (system_of file g) listed
  listed_run = record { states = states; steps = steps }
    where
      states : (n : ℕ) → Position listed n → State g (at listed n)
      states zero p = c.states (lit≤ tt)
      states (suc zero) p = c.states (lit≤ tt)
      states (suc (suc zero)) p = c.states (lit≤ tt)
      states (suc (suc (suc zero))) p = c.states (lit≤ tt)
      states (suc (suc (suc (suc zero)))) p = c.states (lit≤ tt)
      states (suc (suc (suc (suc (suc n))))) p = absurd (omega arith)

      steps : (n : ℕ) → Position listed (suc n) → Next (system_of file g) (at listed n) (at listed (suc n))
      steps zero p = inl refl
      steps (suc zero) p = first_move
      steps (suc (suc zero)) p = inl refl
      steps (suc (suc (suc zero))) p = second_move
      steps (suc (suc (suc (suc n)))) p = absurd (omega arith)

  -- among any two positions in a row the step is somewhere disabled or taken
  taken : (t : ℕ) → t < 1 → (n : ℕ) → (j : ℕ) × (j < 2) × DisabledOrTaken (system_of file g) t σ (n + j)
  unfolding σ
  taken zero l zero = (1, omega arith, inr c.zero_on)
  taken zero l (suc zero) = (0, omega arith, inr c.zero_on)
  taken zero l (suc (suc zero)) = (1, omega arith, inr c.one_on)
  taken zero l (suc (suc (suc zero))) = (0, omega arith, inr c.one_on)
  taken zero l (suc (suc (suc (suc n)))) = (0, omega arith, rw (add-zero (suc (suc (suc (suc n))))) (inl c.two_off))
  taken (suc t) l n = absurd (omega arith)

  -- from v = 1 on: 1 1 2, and then 2 for ever
  late_run : IsRun (system_of file g) (endless late)
  late_run = let run = σ_run in record { states = λ n p. run.states (suc (suc n)) tt; steps = λ n p. run.steps (suc (suc n)) tt }

  late_taken : (t : ℕ) → t < 1 → (n : ℕ) → (j : ℕ) × (j < 2) × DisabledOrTaken (system_of file g) t late (n + j)
  late_taken t l n =
      let x = taken t l (suc (suc n)) in
      let same : suc (suc n) + x.0 ≡ suc (suc (n + x.0)) = omega arith in
      (x.0, x.1, rw same at x.2)

-- ---- the theorems
-- the file is accepted, has this outline, and claims this
abbrev Accepted : List ℕ → Outline → Claim → Type 0
Accepted file o claim = ((check_of file 32).number ≡ 0) × (found_of file ≡ Ok o) × ((diagram_of file o).claim ≡ claim)

pub invariance_met : Accepted b o_b Claim.Invariance × IsRun (system_of b g_b) listed × T (start_holds b g_b (at listed 0)) × Idles listed × Moves listed
unfolding reporting
invariance_met = ((refl, refl, refl), listed_run b g_b B_counts, tt, (0, omega arith, refl), (1, omega arith, apart (lit< tt)))

pub wait_for_met : Accepted h o_h Claim.WaitFor × IsRun (system_of h g_h) (endless σ) × T (start_holds h g_h (σ 0)) × T (p_holds h g_h (σ 0))
    × Waiting (q_holds h g_h 0) (endless σ) 0 3 × Idles (endless σ) × Moves (endless σ)
unfolding σ reporting
wait_for_met =
    ((refl, refl, refl), σ_run h g_h H_counts, tt, tt, record { from = omega arith; position = tt; unmet = unmet }, (0, tt, refl), (1, tt, apart (lit< tt)))
  where
    unmet : (j : ℕ) → 0 ≤ j → j ≤ 3 → T (not (q_holds h g_h 0 (σ j)))
    unmet zero a l = tt
    unmet (suc zero) a l = tt
    unmet (suc (suc zero)) a l = tt
    unmet (suc (suc (suc zero))) a l = tt
    unmet (suc (suc (suc (suc j)))) a l = absurd (omega arith)

pub chain_met : Accepted d o_d Claim.Chain × IsRun (system_of d g_d) (endless σ) × T (start_holds d g_d (σ 0)) × T ((system_of d g_d).just 0)
    × KJust (system_of d g_d) 2 σ × Just (system_of d g_d) σ × T (p_holds d g_d (σ 0)) × Idles (endless σ) × Moves (endless σ)
    × ((j : ℕ) → j < 4 → T (not (q_holds d g_d 0 (σ j)))) × T (q_holds d g_d 0 (σ 4))
unfolding σ reporting
chain_met = (
  (refl, refl, refl),
  σ_run d g_d D_counts,
  tt,
  tt,
  (λ t l j n. taken d g_d D_counts t l n),
  (λ t l j n. let x = taken d g_d D_counts t l n in (x.0, x.2)),
  tt,
  (0, tt, refl),
  (1, tt, apart (lit< tt)),
  unmet,
  tt,
)
  where
    unmet : (j : ℕ) → j < 4 → T (not (q_holds d g_d 0 (σ j)))
    unmet zero l = tt
    unmet (suc zero) l = tt
    unmet (suc (suc zero)) l = tt
    unmet (suc (suc (suc zero))) l = tt
    unmet (suc (suc (suc (suc j)))) l = absurd (omega arith)

pub chain_met_late : Accepted d o_d Claim.Chain × IsRun (system_of d g_d) (endless late) × T (not (start_holds d g_d (late 0))) × KJust (system_of d g_d) 2 late
    × Just (system_of d g_d) late × T (p_holds d g_d (late 0)) × Idles (endless late) × Moves (endless late)
    × ((j : ℕ) → j < 2 → T (not (q_holds d g_d 0 (late j)))) × T (q_holds d g_d 0 (late 2))
unfolding σ reporting
chain_met_late = (
  (refl, refl, refl),
  late_run d g_d D_counts,
  tt,
  (λ t l j n. late_taken d g_d D_counts t l n),
  (λ t l j n. let x = late_taken d g_d D_counts t l n in (x.0, x.2)),
  tt,
  (0, tt, refl),
  (1, tt, apart (lit< tt)),
  unmet,
  tt,
)
  where
    unmet : (j : ℕ) → j < 2 → T (not (q_holds d g_d 0 (late j)))
    unmet zero l = tt
    unmet (suc zero) l = tt
    unmet (suc (suc j)) l = absurd (omega arith)
