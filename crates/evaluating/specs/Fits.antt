-- What the code asks of a transition: its expressions fit at the state, and the values of its picks are in order.
use Rattle.std.specs.Prelude.{◌≡◌, List, true, false, ℕ, zero, suc, ◌+◌, ◌/◌, ◌<◌, length, ℤ, ◌≤ℤ◌}
use Rattle.records.specs.Record.{field_a, value_b, value_c, kind_is}
use Rattle.records.specs.Kind.{number as number_sort, truth as truth_sort}
use Rattle.sections.specs.Section.{is_update}
use Rattle.expressions.specs.Expression.{part_at, behind}
use Rattle.expressions.specs.Fits.{Fits}
use Rattle.evaluating.specs.Transition.{update_at}

pub record UpdateFits (file : List ℕ) (at : ℕ) (state : List ℤ) : Type 0 where
  pub named : field_a file at < 12
  pub value : kind_is file 0x08 at ≡ false → Fits 16 number_sort (part_at file (at + 1)) state
  pub ordered : kind_is file 0x08 at ≡ true → value_b file at ≤ℤ value_c file at

unfoldable pub UpdatesFit : List ℕ → ℕ → ℕ → List ℤ → Type 0
UpdatesFit file zero at state = Unit {0}
UpdatesFit file (suc n) at state = is_update file at ≡ true → UpdateFits file at state × UpdatesFit file n (update_at file at state).end state

pub record TransitionFits (file : List ℕ) (at : ℕ) (state : List ℤ) : Type 0 where
  pub guard : Fits 16 truth_sort (part_at file (at + 1)) state
  pub updates : UpdatesFit file (length file / 8) (behind file (at + 1)) state
