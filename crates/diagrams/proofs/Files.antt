-- The files of the tables of examples, with their outlines, for the crates above.
-- Assumes nothing.
pub use Rattle.reading.proofs.Files.{agree, bytes, range, start, transition, assignment, pick, property, node, single, double}
pub use Rattle.reading.proofs.Files.{constant, variable, plain, true, is, A, B, C, D, E, F, G, H, I, J}
pub use Rattle.shapes.specs.declared.Outline.{Outline}
use Prim.Native.Nat.{ℕ}

-- ---- outlines of A, B and what is made of them by other expressions of the same length, and so of D and of H
-- one variable and one transition; where nodes and edges begin, and how many there are
abbrev counting : ℕ → ℕ → ℕ → ℕ → Outline
counting node nodes edge edges =
    record { vars = 1; transition = 5; transitions = 1; property = 13; node = node; nodes = nodes; edge = edge; edges = edges }

abbrev pub o_b : Outline
o_b = counting 17 1 21 0

abbrev pub o_d : Outline
o_d = counting 18 3 30 2

abbrev pub o_h : Outline
o_h = counting 26 3 38 2
