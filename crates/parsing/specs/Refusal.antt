-- What every refusal of reading is: a number of 2 or more, so never that of a yes (0) or of a short buffer (1), with its place.
use Rattle.std.specs.Prelude.{◌≡◌, ℕ, ◌≤◌, Result, Err}
use Rattle.shapes.specs.declared.Refusal.{Refusal}
use Rattle.shapes.specs.Refusal.{refused_number, refused_place}

pub record Refused (most : ℕ) (refusal : Refusal) : Type 0 where
  pub from : 2 ≤ refused_number refusal
  pub within : refused_place refusal ≤ most

-- an answer, if it is a refusal, is such a one
abbrev pub Refuses : {A : Type 0} → ℕ → Result A Refusal → Type 0
Refuses most answer = (refusal : Refusal) → answer ≡ Err refusal → Refused most refusal
