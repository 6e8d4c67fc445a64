-- Walks of an expression: one table, which antt computes, and one theorem, that at each of its rows `walk_of` gives the answer.
-- Assumes nothing.
use mathlib.Core.Path.{◌≡◌, refl}
use mathlib.Core.List.{List, [], ◌∷◌, map, flatten, Memᴰ}
use Prim.Native.Nat.{ℕ}
use Rattle.std.specs.declared.result.Result.TheVariants.{Ok, Err}
use Rattle.shapes.specs.declared.Refusal.{Refusal}
use Rattle.records.specs.declared.kinds.Sort.{Sort}
use Rattle.records.specs.Kind.{number, truth, divisor}
use Rattle.records.specs.Walk.{Walked, walk_of}
use Rattle.records.proofs.Computing.{walking}
use Rattle.records.proofs.Files.{agree, entry, constant, variable, plain, true}

-- the records of a file with one variable, what is asked for at the first of them, and how many levels are left; where the walk ends
abbrev Row : Type 0
Row = (List (List ℕ) × Sort × ℕ) × Walked

abbrev walks : List Row
walks =
    -- C2.1, C2.2: no operand, two
    ((variable 0 ∷ [], number, 16), Ok 1) ∷
    ((plain 0x12 ∷ variable 0 ∷ constant 1 ∷ [], number, 16), Ok 3) ∷
    -- C10.3: another sort, no kind, the file's end
    ((true ∷ [], number, 16), Err (Refusal.Kind 0)) ∷
    ((plain 0x16 ∷ [], number, 16), Err (Refusal.Kind 0)) ∷
    ((plain 0x12 ∷ variable 0 ∷ [], number, 16), Err (Refusal.Kind 2)) ∷
    -- C10.4, C1.15: a variable that the file lacks
    ((variable 1 ∷ [], number, 16), Err (Refusal.Field 0)) ∷
    -- C2.12, C10.5, C11.3: one level, and none, where 3 and 4 come first
    ((constant 1 ∷ [], number, 1), Ok 1) ∷
    ((constant 1 ∷ [], number, 0), Err (Refusal.Limit 0)) ∷
    ((true ∷ [], number, 0), Err (Refusal.Kind 0)) ∷
    ((variable 1 ∷ [], number, 0), Err (Refusal.Field 0)) ∷
    -- C2.15, C10.19: a divisor, and numbers that are none
    ((constant 1 ∷ [], divisor, 16), Ok 1) ∷
    ((constant 0x7fff ∷ [], divisor, 16), Ok 1) ∷
    ((constant 0 ∷ [], divisor, 16), Err (Refusal.Divisor 0)) ∷
    ((constant 0xffff ∷ [], divisor, 16), Err (Refusal.Divisor 0)) ∷
    ((variable 0 ∷ [], divisor, 16), Err (Refusal.Divisor 0)) ∷
    -- C11.2: 3, 4 and 5 come before 19, and 19 before what the operands of what is none are refused with
    ((true ∷ [], divisor, 16), Err (Refusal.Kind 0)) ∷
    (([], divisor, 16), Err (Refusal.Kind 0)) ∷
    ((entry 0x10 1 0 0 0 ∷ [], divisor, 16), Err (Refusal.Field 0)) ∷
    ((variable 1 ∷ [], divisor, 16), Err (Refusal.Field 0)) ∷
    ((constant 0 ∷ [], divisor, 0), Err (Refusal.Limit 0)) ∷
    ((plain 0x12 ∷ true ∷ [], divisor, 16), Err (Refusal.Divisor 0)) ∷
    ((plain 0x12 ∷ [], divisor, 16), Err (Refusal.Divisor 0)) ∷
    -- C2.14: as operands, the left one first
    ((plain 0x18 ∷ variable 0 ∷ constant 5 ∷ [], number, 16), Ok 3) ∷
    ((plain 0x19 ∷ variable 0 ∷ variable 0 ∷ [], number, 16), Err (Refusal.Divisor 2)) ∷
    ((plain 0x19 ∷ true ∷ constant 0 ∷ [], number, 16), Err (Refusal.Kind 1)) ∷
    -- a number stays one where a truth is asked
    ((constant 1 ∷ [], truth, 16), Err (Refusal.Kind 0)) ∷
    []

abbrev walked : List (List ℕ) × Sort × ℕ → Walked
walked (records, want, levels) = walk_of (flatten records) 1 levels want 0

columns : map (λ (row : Row). walked row.0) walks ≡ map (λ (row : Row). row.1) walks
unfolding walking
columns = refl

pub walks_hold : (row : Row) → Memᴰ row walks → walked row.0 ≡ row.1
walks_hold = agree (λ row. walked row.0) (λ row. row.1) columns
