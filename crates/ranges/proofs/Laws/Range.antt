-- Laws of the ranges of a file's variables.
--     ends_length, ends_at, ends_beyond     a table of ends has 12 entries: those of the file's variables, and 0 beyond
--     ranges_file                           where no variable's range is empty, none of the twelve is
--     state_idle                            a variable that the file lacks is 0 in every state (C4.2)
--     states_idle                           beyond a file's variables every state is idle
-- Assumes nothing.
use mathlib.Core.Path.{◌≡◌, sym, ◌∙◌}
use mathlib.Core.List.{List}
use Prim.Native.Nat.{ℕ, ◌+◌, ◌*◌, ◌<◌, ◌≤◌}
use native.Mathlib.Omega.{arith}
use borrow.Author.Tests.{ltb-true, ltb-false}
use lib.Dec.{ltb}
use lib.IntN.{ℤ, pos}
use lib.ListN.{length, get_or}
use lib.Signed.{◌≤ℤ◌, ≤ℤ_refl}
use Rattle.truths.proofs.Laws.Table.{length_table, table_at, table_beyond}
use Rattle.truths.proofs.Laws.Truth.{by-test}
use Rattle.integers.proofs.Laws.Parts.{≤ℤ_antisym}
use Rattle.records.specs.Record.{value, value_b, value_c}
use Rattle.states.specs.Ranges.{Ranges, Idle}
use Rattle.states.proofs.Laws.State.{at_ranges, within_at, at_idle}
use Rattle.ranges.specs.Range.{ends_of, lows_of, highs_of}
use Rattle.ranges.specs.State.{State}

module _ (file : List ℕ) (vars field : ℕ) where
  abbrev end : ℕ → ℤ
  end v = value file (8 * v + field)

  pub ends_length : length (ends_of file vars field) ≡ 12
  unfolding ends_of
  ends_length = length_table 12 (pos 0) end vars

  pub ends_at : (v : ℕ) → v < 12 → v < vars → get_or (ends_of file vars field) v (pos 0) ≡ value file (8 * v + field)
  unfolding ends_of
  ends_at v l m = table_at 12 (pos 0) end vars v l m

  pub ends_beyond : (v : ℕ) → vars ≤ v → get_or (ends_of file vars field) v (pos 0) ≡ pos 0
  unfolding ends_of
  ends_beyond v m = table_beyond 12 (pos 0) end vars v m

-- ---- no range is empty

pub ranges_file : (file : List ℕ) (vars : ℕ) → vars ≤ 12 → ((v : ℕ) → v < vars → value_b file v ≤ℤ value_c file v)
    → Ranges (lows_of file vars) (highs_of file vars)
ranges_file file vars l f =
    at_ranges (lows_of file vars) (highs_of file vars) (ends_length file vars 4 ∙ sym (ends_length file vars 2))
    (λ i _. by-test (ltb i vars) (λ _. get_or (lows_of file vars) i (pos 0) ≤ℤ get_or (highs_of file vars) i (pos 0))
    (λ is.
    let m : i < vars = ltb-true i vars is in
    let k : i < 12 = omega arith in
    rw (ends_at file vars 2 i k m, ends_at file vars 4 i k m) (f i m))
    (λ is.
    let m : vars ≤ i = ltb-false i vars is in
    rw (ends_beyond file vars 2 i m, ends_beyond file vars 4 i m) (≤ℤ_refl (pos 0))))

-- ---- states

pub state_idle : (file : List ℕ) (vars : ℕ) {state : List ℤ} → State file vars state → (v : ℕ) → vars ≤ v → get_or state v (pos 0) ≡ pos 0
state_idle file vars w v l =
    let h = within_at w v in
    ≤ℤ_antisym (rw (ends_beyond file vars 4 v l) at h.1) (rw (ends_beyond file vars 2 v l) at h.0)

pub states_idle : (file : List ℕ) (vars : ℕ) (state : List ℤ) → State file vars state → Idle vars (lows_of file vars) (highs_of file vars) state
states_idle file vars state w =
    at_idle vars (lows_of file vars) (highs_of file vars) state
    (λ i l m. let e = state_idle file vars w i l in (e ∙ sym (ends_beyond file vars 2 i l), ends_beyond file vars 4 i l ∙ sym e))
