-- Refusal 20 (C10.20), computed: B, D and H of C16.1, an invariance, a chain and a wait-for about v in 0..2, with the start "v = n"; one table, and a
-- theorem over its rows.
-- Assumes nothing.
use mathlib.Core.Path.{◌≡◌, refl}
use mathlib.Core.List.{List, [], ◌∷◌, ◌++◌, map, flatten, Memᴰ}
use Prim.Native.Nat.{ℕ}
use lib.ListN.{set}
use Rattle.shapes.specs.Refusal.{refused_number, refused_place}
use Rattle.diagrams.specs.Diagram.{diagram_of}
use Rattle.diagrams.specs.Start.{and_start}
use Rattle.diagrams.proofs.Files.{agree, constant, B, D, H, Outline, o_b, o_d, o_h}
use Rattle.diagrams.proofs.Computing.{computing}

-- a file with its outline, n, and the answer: a refusal's number and place, or 0 and 1, which come next
abbrev Row : Type 0
Row = (List (List ℕ) × Outline) × ℕ × (ℕ × ℕ)

abbrev answered : Row → ℕ × ℕ
answered ((file, o), n, expected) =
    let bytes = flatten (set file 4 (constant n)) in and_start (λ r. (refused_number r, refused_place r)) bytes (diagram_of bytes o) (0, 1)

-- each of the three states is enough; 3 and -1 are none
abbrev rows : List (List ℕ) × Outline → List Row
rows file =
    (file, 0, (0, 1)) ∷ (file, 1, (0, 1)) ∷ (file, 2, (0, 1)) ∷ (file, 3, (20, 0)) ∷ (file, 0xffff, (20, 0)) ∷ []

abbrev table : List Row
table = rows (B, o_b) ++ rows (D, o_d) ++ rows (H, o_h)

column : map answered table ≡ map (λ (row : Row). row.2) table
unfolding computing
column = refl

pub examples : (row : Row) → Memᴰ row table → answered row ≡ row.2
examples = agree answered (λ row. row.2) column
