-- The files A to J of C16.1, for tables of examples here and in the crates above. A file is written as the list of its records.
-- Assumes nothing.
use mathlib.Core.List.{List, [], ◌∷◌, ◌++◌, map}
use Prim.Native.Nat.{ℕ}
use lib.ListN.{take, drop, set}
pub use Rattle.records.proofs.Files.{agree, bytes, given, entry, range, start, transition, assignment, pick, property, node, single, double}
pub use Rattle.records.proofs.Files.{constant, variable, plain, true, not, is, product}

-- ---- the files
-- v in 0..2, from 0, counts up while it is less than 2; q is v ≤ 2, the node v ≤ 1
abbrev pub A : List (List ℕ)
A =
    map given (
    0x010000000200 ∷ 0x020000000000 ∷ 0x270000000000 ∷ 0x110000000000 ∷ 0x100000000000 ∷ 0x030000000000 ∷ 0x280000000000 ∷
    0x110000000000 ∷ 0x100002000000 ∷ 0x040000000000 ∷ 0x120000000000 ∷ 0x110000000000 ∷ 0x100001000000 ∷ 0x050100000000 ∷
    0x290000000000 ∷ 0x110000000000 ∷ 0x100002000000 ∷ 0x060000000000 ∷ 0x290000000000 ∷ 0x110000000000 ∷ 0x100001000000 ∷ [])

-- the node is v ≤ 2
abbrev pub B : List (List ℕ)
B = set A 20 (constant 2)

-- B, its guard true
abbrev pub C : List (List ℕ)
C = take 6 B ++ (true ∷ drop 9 B)

-- node i is v = 2 - i
abbrev pub nodes : List (List ℕ)
nodes = (node ∷ is 0 2) ++ (node ∷ is 0 1) ++ (node ∷ is 0 0)

-- a chain about A's counter, its step just: p is true, q is v = 2, and double edges lead down node by node
abbrev pub D : List (List ℕ)
D = set (take 13 A) 5 (transition 1) ++ (property 3 0 ∷ true ∷ is 0 2) ++ nodes ++ (double 0 2 1 ∷ double 0 1 0 ∷ [])

-- D, its first edge to node 0
abbrev pub E : List (List ℕ)
E = set D 30 (double 0 2 0)

-- D, its step not just
abbrev pub F : List (List ℕ)
F = set D 5 (transition 0)

-- D without its first edge
abbrev pub G : List (List ℕ)
G = take 30 D ++ drop 31 D

-- a wait-for with D's nodes and phases that say the same: p is v = 0, and the edges are single
abbrev pub H : List (List ℕ)
H = take 13 D ++ (property 2 3 ∷ is 0 0 ++ is 0 2 ++ is 0 1 ++ is 0 0) ++ nodes ++ (single 0 2 1 ∷ single 0 1 0 ∷ [])

-- H with an edge upward
abbrev pub I : List (List ℕ)
I = H ++ (single 0 1 2 ∷ [])

-- two variables in 0..1 that begin as 0 and 1 and are swapped: they differ
abbrev pub J : List (List ℕ)
J =
    (range 0 1 ∷ range 0 1 ∷ start ∷ plain 0x23 ∷ is 0 0 ++ is 1 1) ++
    (transition 0 ∷ true ∷ assignment 0 ∷ variable 1 ∷ assignment 1 ∷ variable 0 ∷ []) ++
    (property 1 0 ∷ differ) ++
    (node ∷ differ)
  where
    differ : List (List ℕ)
    differ = not ∷ plain 0x27 ∷ variable 0 ∷ variable 1 ∷ []
