-- Refusal 20, behind those of reading; and so which files are readable.
use Rattle.std.specs.Prelude.{◌≡◌, Bool, true, cond, List, ℕ}
use Rattle.shapes.specs.declared.Refusal.{Refusal}
use Rattle.truths.specs.Search.{any}
use Rattle.diagrams.specs.declared.Diagram.{Diagram}
use Rattle.diagrams.specs.Diagram.{Loaded, state_at}
use Rattle.diagrams.specs.Truth.{start_holds}

-- for C10.20: there is a starting state
unfoldable pub starts_of : List ℕ → Diagram → Bool
starts_of file g = any (λ n. start_holds file g (state_at g n)) g.states 0

-- C10.20, C11.1: what comes next of a file that has one, or refusal 20
unfoldable pub and_start : {A : Type 0} → (Refusal → A) → List ℕ → Diagram → A → A
and_start refused file g next = cond (starts_of file g) next (refused Refusal.NoStart)

-- C11.6: none of the refusals 2 to 10, 19 and 20 meets the file, and g is its diagram
pub record Readable (file : List ℕ) (g : Diagram) : Type 0 where
  pub loaded : Loaded file g
  pub starts : starts_of file g ≡ true
