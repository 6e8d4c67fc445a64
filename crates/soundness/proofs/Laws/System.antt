-- The system of a file has the states and steps of the specification, and none is missing.
--     successor_state     each successor of a state is a state (C5.4)
--     successor_listed    to be in the list of successors is enough to be one, for what is taken too (C6.4)
--     enabled_taken       a transition that is enabled has one (C5.7)
--     steps_run           so whatever begins in a state and goes on by steps, idling or taking a transition, is a run: a state at each position (C6.7)
--     step_run            a state and one of its successors are one
--     state_run           and a state by itself, whichever it is (C6.3, C6.7)
--     idle_run            and a state for ever
--     readable_starts     so a readable file has a run from a starting state (C7.10)
-- Assumes nothing.
use mathlib.Core.Path.{refl, sym, ◌∙◌}
use mathlib.Core.Logic.{inl, inr}
use mathlib.Core.List.{List, [], ◌∷◌}
use Prim.Native.Nat.{ℕ, zero, suc, ◌<◌}
use native.Mathlib.Omega.{arith}
use lib.Dec.{T}
use lib.IntN.{ℤ}
use Rattle.diagrams.specs.declared.Diagram.{Diagram}
use Rattle.diagrams.specs.Diagram.{Loaded, State}
use Rattle.diagrams.specs.Start.{Readable}
use Rattle.diagrams.proofs.Laws.Start.{readable_starting}
use Rattle.truths.specs.Listed.{Member}
use Rattle.diagrams.specs.System.{next_states}
use Rattle.diagrams.proofs.Laws.System.{enabled_and, successor_enabled, successor_some, successor_state as successor_within}
use Rattle.runs.specs.Run.{Run, finite, endless, Position, at, enabled, Successor, Next, IsRun}
use Rattle.runs.specs.Claim.{Starts}
use Rattle.runs.proofs.Laws.Run.{earlier}
use Rattle.soundness.specs.System.{system_of}
use Rattle.truths.proofs.Laws.Truth.{is_true, so_true}

module _ (file : List ℕ) (g : Diagram) (s : List ℤ) (w : State g s) where
  pub state_run : IsRun (system_of file g) (finite s [])
  state_run = record { states = states; steps = steps }
    where
      states : (n : ℕ) → Position (finite s []) n → State g (at (finite s []) n)
      states zero p = w
      states (suc n) p = absurd (omega arith)

      steps : (n : ℕ) → Position (finite s []) (suc n) → Next (system_of file g) (at (finite s []) n) (at (finite s []) (suc n))
      steps n p = absurd (omega arith)

  pub idle_run : IsRun (system_of file g) (endless (λ n. s))
  idle_run = record { states = λ n p. w; steps = λ n p. inl refl }

module _ (file : List ℕ) (g : Diagram) (r : Loaded file g) where
  pub successor_state : (s : List ℤ) → State g s → (t : ℕ) → t < g.transitions → (s' : List ℤ) → Successor (system_of file g) t s s' → State g s'
  successor_state s w t l s' (e, m) = successor_within file g r t l s w s' m

  next_state : {s s' : List ℤ} → State g s → Next (system_of file g) s s' → State g s'
  next_state w (inl e) = rw e w
  next_state {s} {s'} w (inr (t, l, x)) = successor_state s w t l s' x

  module _ (run : Run (List ℤ)) (w : State g (at run 0))
      (steps : (n : ℕ) → Position run (suc n) → Next (system_of file g) (at run n) (at run (suc n))) where
    pub steps_run : IsRun (system_of file g) run
    steps_run = record { states = states; steps = steps }
      where
        states : (n : ℕ) → Position run n → State g (at run n)
        states zero p = w
        states (suc n) p = next_state (states n (earlier run n p)) (steps n p)

  pub step_run : (s : List ℤ) → State g s → (t : ℕ) → t < g.transitions → (s' : List ℤ) → Successor (system_of file g) t s s'
      → IsRun (system_of file g) (finite s (s' ∷ []))
  step_run s w t l s' x = steps_run (finite s (s' ∷ [])) w steps
    where
      steps : (n : ℕ) → Position (finite s (s' ∷ [])) (suc n) → Next (system_of file g) (at (finite s (s' ∷ [])) n) (at (finite s (s' ∷ [])) (suc n))
      steps zero p = inr (t, l, x)
      steps (suc n) p = absurd (omega arith)

  -- taken is to go on to one in the list, which is empty where the transition is disabled
  pub successor_listed : (s : List ℤ) (t : ℕ) (s' : List ℤ) → Member s' (next_states file g t s) → Successor (system_of file g) t s s'
  successor_listed s t s' m = (so_true _ (sym (enabled_and file g t s) ∙ successor_enabled file g t s s' m), m)

  -- where it is enabled, it can be taken
  pub enabled_taken : (s : List ℤ) → State g s → (t : ℕ) → t < g.transitions → T (enabled (system_of file g) t s)
      → (s' : List ℤ) × Successor (system_of file g) t s s'
  enabled_taken s w t l e =
      let some = successor_some file g r t l s w (enabled_and file g t s ∙ is_true _ e) in
      (some.0, (e, some.1))

pub readable_starts : (file : List ℕ) (g : Diagram) → Readable file g → Starts (system_of file g)
readable_starts file g r =
    let s = readable_starting file g r in
    (finite s.state [], state_run file g s.state s.within, so_true _ s.holds)
