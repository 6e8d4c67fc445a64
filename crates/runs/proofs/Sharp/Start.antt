-- That there is a run from a starting state (C7.10) is no weaker than its clause, and no stronger.
-- Assumes nothing.
use Prim.Native.Nat.{ℕ}
use native.Mathlib.Omega.{arith}
use mathlib.Core.Path.{◌≡◌}
use mathlib.Core.Bool.{Bool, false}
use mathlib.Core.List.{[]}
use lib.Dec.{eqb, eqb→eq}
use Rattle.runs.specs.Run.{System, Run, finite, endless, at, IsRun}
use Rattle.runs.specs.Claim.{Starts}
use Rattle.runs.proofs.Sharp.System.{system, stop, finite_run}

-- one state, 0, and no transition; it starts where this is true
abbrev still : (ℕ → Bool) → System
still start =
    record {
      Values = ℕ;
      State = λ s. s ≡ 0;
      start = start;
      transitions = 0;
      just = λ t. false;
      guard = λ t s. false;
      fits = λ t s. false;
      Assigns = λ t s s'. ⊥;
    }

-- C7.10: no state is a starting state
pub nowhere : Starts (still (λ s. false)) → ⊥
nowhere x = x.2

-- every run of it begins in 0
in_state : (start : ℕ → Bool) (r : Run ℕ) → IsRun (still start) r → at r 0 ≡ 0
in_state start (finite s ss) run = run.states 0 (omega arith)
in_state start (endless σ) run = run.states 0 tt

-- C7.10: where only values that are no state would start, no run begins
pub no_state : Starts (still (λ s. eqb s 1)) → ⊥
no_state (r, run, t) = omega (arith, eqb→eq (at r 0) 1 t, in_state (λ s. eqb s 1) r run)

-- C7.10, C6.7: a starting state by itself is enough, though other runs don't begin in one
pub one : Starts (system [])
one = (finite 0 [], finite_run [] stop, tt)
