-- Laws of refusal 20.
--     starts_any                        whether one of the states, by their numbers, satisfies the start
--     starts_some, some_starts          it does not apply exactly if a state satisfies the start, by its values (C10.20)
--     readable_starting, starting_readable     so a file whose parts are found is readable exactly if it has a starting state (C11.6)
--     start_follows, start_refused      what comes next is then the answer; else 20 is
-- Assumes nothing.
use mathlib.Core.Path.{◌≡◌, refl}
use mathlib.Core.Bool.{true, false}
use mathlib.Core.List.{List}
use Prim.Native.Nat.{ℕ}
use native.Mathlib.Nat.{zero-add}
use lib.IntN.{ℤ}
use Rattle.shapes.specs.declared.Refusal.{Refusal}
use Rattle.truths.specs.Search.{any}
use Rattle.truths.proofs.Laws.Any.{any_below, any_some}
use Rattle.diagrams.specs.declared.Diagram.{Diagram}
use Rattle.diagrams.specs.Diagram.{Loaded, State, state_at, state_number}
use Rattle.diagrams.specs.Truth.{start_holds}
use Rattle.diagrams.specs.Start.{starts_of, and_start, Readable}
use Rattle.diagrams.proofs.Laws.Diagram.{state_numbered, number_state}

-- a starting state
pub record Starting (file : List ℕ) (g : Diagram) : Type 0 where
  pub state : List ℤ
  pub within : State g state
  pub holds : start_holds file g state ≡ true

pub starts_any : (file : List ℕ) (g : Diagram) → starts_of file g ≡ any (λ n. start_holds file g (state_at g n)) g.states 0
unfolding starts_of
starts_any file g = refl

module _ (file : List ℕ) (g : Diagram) (r : Loaded file g) where
  pub starts_some : starts_of file g ≡ true → Starting file g
  unfolding starts_of
  starts_some e =
      let s = any_some (λ n. start_holds file g (state_at g n)) g.states 0 e in
      record {
        state = state_at g s.which;
        within = (state_numbered file g r s.which s.below).0;
        holds = rw (zero-add s.which) at s.passes;
      }

  pub some_starts : Starting file g → starts_of file g ≡ true
  unfolding starts_of
  some_starts s =
      let n = number_state file g r s.state s.within in
      any_below (λ n. start_holds file g (state_at g n)) g.states (state_number g s.state) n.0 (rw n.1 s.holds)

module _ (file : List ℕ) (g : Diagram) where
  pub readable_starting : Readable file g → Starting file g
  readable_starting r = starts_some file g r.loaded r.starts

  pub starting_readable : Loaded file g → Starting file g → Readable file g
  starting_readable r s = record { loaded = r; starts = some_starts file g r s }

module _ {A : Type 0} (refused : Refusal → A) (file : List ℕ) (g : Diagram) (next : A) where
  pub start_follows : starts_of file g ≡ true → and_start refused file g next ≡ next
  unfolding and_start
  start_follows e = rw e

  pub start_refused : starts_of file g ≡ false → and_start refused file g next ≡ refused Refusal.NoStart
  unfolding and_start
  start_refused e = rw e
