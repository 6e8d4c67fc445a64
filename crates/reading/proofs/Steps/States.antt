-- One step of `states_of`, as the loop over the variables takes it.
-- Assumes nothing.
use mathlib.Core.Path.{◌≡◌}
use mathlib.Core.List.{List}
use Prim.Native.Nat.{ℕ, suc, ◌+◌, ◌-◌, ◌*◌, ◌<◌, ◌≤◌}
use native.Mathlib.Omega.{arith}
use borrow.Author.Tests.{le-leb, lt-leb}
use Rattle.std.specs.declared.result.Result.TheVariants.{Ok, Err}
use Rattle.shapes.specs.declared.Refusal.{Refusal}
use Rattle.reading.specs.States.{size_at, states_of}

module _ (file : List ℕ) (vars at product : ℕ) where
  pub states_end : vars ≤ at → states_of file (vars - at) at product ≡ Ok product
  unfolding states_of
  states_end l = let z : vars - at ≡ 0 = omega arith in rw z

  module _ (size : ℕ) (is : size ≡ size_at file at) (more : at < vars) where
    pub states_over : 1048576 < product * size → states_of file (vars - at) at product ≡ Err (Refusal.States at)
    unfolding states_of
    states_over o = let z : vars - at ≡ suc (vars - (at + 1)) = omega arith in rw (z, ← is, lt-leb _ _ o)

    pub states_step : product * size ≤ 1048576 → states_of file (vars - at) at product ≡ states_of file (vars - (at + 1)) (at + 1) (product * size)
    unfolding states_of
    states_step o = let z : vars - at ≡ suc (vars - (at + 1)) = omega arith in rw (z, ← is, le-leb _ _ o)

pub ruleset states_steps = (states_end, states_over, states_step)
