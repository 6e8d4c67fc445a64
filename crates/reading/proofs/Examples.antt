-- The files A to J of C16.1, read, and files that each pin down a clause or two: one table of files and answers, which antt computes, and one theorem,
-- that at each of its rows `read_of` gives the answer.
-- Assumes nothing.
use mathlib.Core.Path.{◌≡◌, refl}
use mathlib.Core.List.{List, [], ◌∷◌, ◌++◌, map, flatten, Memᴰ}
use Prim.Native.Nat.{ℕ}
use lib.ListN.{take, drop, set, replicate}
use Rattle.std.specs.declared.result.Result.TheVariants.{Ok, Err}
use Rattle.shapes.specs.declared.Refusal.{Refusal}
use Rattle.parsing.specs.Outline.{Reading}
use Rattle.reading.specs.Read.{read_of}
use Rattle.reading.proofs.Computing.{reading}
use Rattle.reading.proofs.Files.{bytes, given, entry, range, start, transition, assignment, pick, property, node, single, double}
use Rattle.reading.proofs.Files.{constant, variable, plain, true, not, product, A, B, C, D, E, F, G, H, I, J, agree}

-- ---- small files
-- start, q and one node, all true, behind these variables
abbrev over : List (List ℕ) → List (List ℕ)
over variables = variables ++ (start ∷ true ∷ property 1 0 ∷ true ∷ node ∷ true ∷ [])

-- the same behind one variable in 0..2: 7 records
abbrev small : List (List ℕ)
small = over (range 0 2 ∷ [])

-- the small file with another start expression
abbrev starting : List (List ℕ) → List (List ℕ)
starting expression = take 2 small ++ expression ++ drop 3 small

-- x = 0
abbrev zero : List (List ℕ) → List (List ℕ)
zero x = plain 0x27 ∷ x ++ (constant 0 ∷ [])

-- b × c = 0
abbrev vanishes : ℕ → ℕ → List (List ℕ)
vanishes b c = zero (product b c)

-- the small file whose start says that x by the divisor, quotient (0x18) or remainder (0x19), is 0: the divisor is the last record but five
abbrev dividing : ℕ → List (List ℕ) → List ℕ → List (List ℕ)
dividing kind x divisor = starting (zero (plain kind ∷ x ++ (divisor ∷ [])))

-- the same of its variable, cut behind the divisor, which is record 5
abbrev cut : ℕ → List ℕ → List (List ℕ)
cut kind divisor = take 6 (dividing kind (variable 0 ∷ []) divisor)

-- a thousand times x
abbrev thousand : List (List ℕ) → List (List ℕ)
thousand x = plain 0x14 ∷ constant 1000 ∷ x

-- n records not, and behind them a record at level n + 1
abbrev nested : ℕ → List ℕ → List (List ℕ)
nested n innermost = replicate n not ++ (innermost ∷ [])

-- D with its step twice, as transitions 0 and 1: the edges begin at record 38
abbrev two_steps : List (List ℕ)
two_steps = take 13 D ++ drop 5 D

-- ---- the table: a file, and what reading it answers
abbrev Row : Type 0
Row = List (List ℕ) × Reading

-- how many variables; the first transition's record and how many; the property's record; the same of nodes and of edges
abbrev readable : ℕ → ℕ → ℕ → ℕ → ℕ → ℕ → ℕ → ℕ → Reading
readable v t ts p n ns e es =
    Ok (record { vars = v; transition = t; transitions = ts; property = p; node = n; nodes = ns; edge = e; edges = es })

abbrev marked : List Row
marked =
    (A, readable 1 5 1 13 17 1 21 0) ∷
    (B, readable 1 5 1 13 17 1 21 0) ∷
    (C, readable 1 5 1 11 15 1 19 0) ∷
    (D, readable 1 5 1 13 18 3 30 2) ∷
    (E, readable 1 5 1 13 18 3 30 2) ∷
    (F, Err (Refusal.Edge 30)) ∷
    (G, Err (Refusal.NoWayDown 2)) ∷
    (H, readable 1 5 1 13 26 3 38 2) ∷
    (I, Err (Refusal.Edge 40)) ∷
    (J, readable 2 10 1 16 21 1 26 0) ∷
    -- C10.3, C10.2: an empty file; 7 bytes
    ([], Err (Refusal.Kind 0)) ∷
    (take 7 (range 0 2) ∷ [], Err Refusal.Length) ∷
    -- C10.7: 1024 × 1024 states, and 1024 × 1025
    (over (range 0 1023 ∷ range 0 1023 ∷ []), readable 2 4 0 4 6 1 8 0) ∷
    (over (range 0 1023 ∷ range 0 1024 ∷ []), Err (Refusal.States 1)) ∷
    -- C3.3, C3.4, C10.8: a million, and a thousand more
    (starting (vanishes 1000 1000), readable 1 7 0 7 9 1 11 0) ∷
    (starting (vanishes 1000 1001), Err (Refusal.Interval 3)) ∷
    []

-- quotients and remainders
abbrev divisions : List Row
divisions =
    -- C2.14, C2.15: divisors from 1 to 32,767
    (dividing 0x18 (variable 0 ∷ []) (constant 1), readable 1 7 0 7 9 1 11 0) ∷
    (dividing 0x19 (variable 0 ∷ []) (constant 0x7fff), readable 1 7 0 7 9 1 11 0) ∷
    -- C10.19: 0, a negative constant, a variable, an indicator, a quotient, and a sum whose operands aren't there
    (dividing 0x18 (variable 0 ∷ []) (constant 0), Err (Refusal.Divisor 5)) ∷
    (dividing 0x19 (variable 0 ∷ []) (constant 0), Err (Refusal.Divisor 5)) ∷
    (dividing 0x19 (variable 0 ∷ []) (constant 0xffff), Err (Refusal.Divisor 5)) ∷
    (dividing 0x19 (variable 0 ∷ []) (constant 0x8000), Err (Refusal.Divisor 5)) ∷
    (cut 0x18 (variable 0), Err (Refusal.Divisor 5)) ∷
    (cut 0x19 (plain 0x15), Err (Refusal.Divisor 5)) ∷
    (cut 0x19 (plain 0x18), Err (Refusal.Divisor 5)) ∷
    (cut 0x19 (plain 0x12), Err (Refusal.Divisor 5)) ∷
    -- C11.2: at the divisor's record 3 comes first, where it is a truth, of no kind or not there; then 4; and the left operand's refusals before all
    (cut 0x19 true, Err (Refusal.Kind 5)) ∷
    (cut 0x19 (plain 0x16), Err (Refusal.Kind 5)) ∷
    (take 5 (cut 0x19 true), Err (Refusal.Kind 5)) ∷
    (cut 0x19 (entry 0x10 1 0 0 0), Err (Refusal.Field 5)) ∷
    (cut 0x19 (entry 0x10 0 0 1 0), Err (Refusal.Field 5)) ∷
    (cut 0x19 (entry 0x11 1 0 0 0), Err (Refusal.Field 5)) ∷
    (cut 0x19 (entry 0x12 0 1 0 0), Err (Refusal.Field 5)) ∷
    (take 4 (cut 0x19 true) ++ (true ∷ constant 0 ∷ []), Err (Refusal.Kind 4)) ∷
    -- C2.14, C1.4: the record itself has no field
    (starting (zero (entry 0x18 0 5 0 0 ∷ variable 0 ∷ constant 5 ∷ [])), Err (Refusal.Field 3)) ∷
    -- C2.11: the kinds around these begin no expression
    (dividing 0x16 (variable 0 ∷ []) (constant 1), Err (Refusal.Kind 3)) ∷
    (dividing 0x17 (variable 0 ∷ []) (constant 1), Err (Refusal.Kind 3)) ∷
    (dividing 0x1a (variable 0 ∷ []) (constant 1), Err (Refusal.Kind 3)) ∷
    -- C11.1, C11.2: 19 comes before 6 of a later record, behind that of an earlier one, and before 7 and 8
    (take 6 A ++ (plain 0x28 ∷ plain 0x19 ∷ variable 0 ∷ constant 0 ∷ take 5 (drop 8 A)) ++ drop 9 A, Err (Refusal.Divisor 9)) ∷
    (take 6 A ++ (plain 0x28 ∷ plain 0x19 ∷ variable 0 ∷ constant 1 ∷ take 5 (drop 8 A)) ++ drop 9 A, Err (Refusal.Repetition 15)) ∷
    (take 13 A ++ (assignment 0 ∷ plain 0x19 ∷ variable 0 ∷ constant 0 ∷ drop 13 A), Err (Refusal.Repetition 13)) ∷
    (range 0 1023 ∷ range 0 1024 ∷ drop 1 (dividing 0x19 (variable 0 ∷ []) (constant 0)), Err (Refusal.Divisor 6)) ∷
    (dividing 0x19 (product 1000 1001) (constant 0), Err (Refusal.Divisor 7)) ∷
    (dividing 0x19 (product 1000 1001) (constant 1), Err (Refusal.Interval 4)) ∷
    -- C3.7, C3.4: the variable by 1001 leaves 0 to 1,000, by 1002 0 to 1,001, each a thousand times
    (starting (zero (thousand (plain 0x19 ∷ variable 0 ∷ constant 1001 ∷ []))), readable 1 9 0 9 11 1 13 0) ∷
    (starting (zero (thousand (plain 0x19 ∷ variable 0 ∷ constant 1002 ∷ []))), Err (Refusal.Interval 3)) ∷
    -- a million by 1 is a million; -1 by 2 is rounded down to -1, and a million times that, less 1, is out of bounds; a thousand times 2,001 by 2 is a
    -- million, a thousand times 2,002 by 2 is out of bounds
    (dividing 0x18 (product 1000 1000) (constant 1), readable 1 9 0 9 11 1 13 0) ∷
    (starting (zero (thousand (thousand (plain 0x18 ∷ constant 0xffff ∷ constant 2 ∷ [])))), readable 1 11 0 11 13 1 15 0) ∷
    (starting (zero (plain 0x13 ∷ thousand (thousand (plain 0x18 ∷ constant 0xffff ∷ constant 2 ∷ [])) ++ (constant 1 ∷ []))), Err (Refusal.Interval 3)) ∷
    (starting (zero (thousand (plain 0x18 ∷ constant 2001 ∷ constant 2 ∷ []))), readable 1 9 0 9 11 1 13 0) ∷
    (starting (zero (thousand (plain 0x18 ∷ constant 2002 ∷ constant 2 ∷ []))), Err (Refusal.Interval 3)) ∷
    []

-- clause by clause
abbrev choices : List Row
choices =
    -- C1.4, C10.4: byte 7 is a field, and so is b of a property that is no wait-for
    (set small 0 (bytes 0x0100000002000001), Err (Refusal.Field 0)) ∷
    (set small 3 (property 1 1), Err (Refusal.Field 3)) ∷
    -- C1.6, C1.3: 3..2 is no range, -2..-1 is one
    (set small 0 (range 3 2), Err (Refusal.Field 0)) ∷
    (set small 0 (given 0x0100feffffff), readable 1 3 0 3 5 1 7 0) ∷
    -- C2.2, C2.6: a number holds a truth by an indicator only
    (starting (plain 0x27 ∷ plain 0x15 ∷ true ∷ constant 1 ∷ []), readable 1 6 0 6 8 1 10 0) ∷
    (starting (plain 0x27 ∷ true ∷ constant 1 ∷ []), Err (Refusal.Kind 3)) ∷
    -- C1.6, C10.5, C11.3: 12 variables pass; a 13th is tried for its fields, then it is one too many
    (over (replicate 12 (range 0 0)), readable 12 14 0 14 16 1 18 0) ∷
    (over (replicate 12 (range 0 0) ++ (range 1 0 ∷ [])), Err (Refusal.Field 12)) ∷
    (over (replicate 13 (range 0 0)), Err (Refusal.Limit 12)) ∷
    -- C2.12, C10.5, C11.3: 16 levels pass; a record at level 17 is tried for its sort and its fields, then it is one too many
    (starting (nested 15 true), readable 1 18 0 18 20 1 22 0) ∷
    (starting (nested 16 (constant 0)), Err (Refusal.Kind 18)) ∷
    (starting (nested 16 (entry 0x20 1 0 0 0)), Err (Refusal.Field 18)) ∷
    (starting (nested 16 true), Err (Refusal.Limit 18)) ∷
    -- C1.11, C11.5: a wait-for with 33 phases is 4, not 5; one with a single phase has node 0 alone (C1.13)
    (set small 3 (property 2 33), Err (Refusal.Field 3)) ∷
    (take 3 small ++ (property 2 1 ∷ true ∷ drop 4 small), readable 1 3 0 3 6 1 8 0) ∷
    -- C1.13, C11.4: too few nodes are 3, at the record count or at the record where a node must stand; more than a wait-for's phases are 5
    (take 5 small, Err (Refusal.Kind 5)) ∷
    (take 34 H ++ drop 38 H, Err (Refusal.Kind 34)) ∷
    (take 38 H ++ (node ∷ true ∷ drop 38 H), Err (Refusal.Limit 38)) ∷
    -- C1.15, C1.5: an edge of a node or a transition that the file lacks is 4; a record of another kind behind the edges is 3
    (D ++ (single 0 3 0 ∷ []), Err (Refusal.Field 32)) ∷
    (D ++ (single 1 2 0 ∷ []), Err (Refusal.Field 32)) ∷
    (D ++ (node ∷ true ∷ []), Err (Refusal.Kind 32)) ∷
    -- C10.6, C1.14, C1.17: a variable assigned twice is 6 at the second assignment, and so is an edge that differs from one before it in d alone
    (take 13 A ++ drop 9 A, Err (Refusal.Repetition 13)) ∷
    (D ++ (single 0 2 1 ∷ []), Err (Refusal.Repetition 32)) ∷
    -- C3.5, C11.1: of a sum that goes out of bounds with both its operands the left operand is named; 8 comes before 9
    (starting (plain 0x27 ∷ plain 0x12 ∷ product 1000 1001 ++ product 1000 1001 ++ (constant 0 ∷ [])), Err (Refusal.Interval 4)) ∷
    (take 4 F ++ product 1000 1001 ++ drop 5 F, Err (Refusal.Interval 4)) ∷
    -- C9.1, C9.4: edges of an invariance lead from any node, none of them double; a wait-for has no double edge either
    (B ++ (single 0 0 0 ∷ []), readable 1 5 1 13 17 1 21 1) ∷
    (B ++ (double 0 0 0 ∷ []), Err (Refusal.Edge 21)) ∷
    (set H 38 (double 0 2 1), Err (Refusal.Edge 38)) ∷
    -- C9.2, C9.3, C9.5: in a chain no edge leaves node 0; to its own node a single edge may lead, a double one not
    (D ++ (single 0 0 0 ∷ []), Err (Refusal.Edge 32)) ∷
    (two_steps ++ (single 1 2 2 ∷ []), readable 1 5 2 21 26 3 38 3) ∷
    (set D 30 (double 0 2 2), Err (Refusal.Edge 30)) ∷
    -- C9.7, C9.8: a node's double edges are of one transition, and no single edge there is
    (D ++ (double 0 2 0 ∷ []), readable 1 5 1 13 18 3 30 3) ∷
    (two_steps ++ (double 1 2 0 ∷ []), Err (Refusal.Edge 40)) ∷
    (D ++ (single 0 2 0 ∷ []), Err (Refusal.Edge 32)) ∷
    []

-- C1.16, C10.22: variables in 0..63 and 0..64, start, guard, q and one node all true; the transition is record 4, its updates begin at record 6
abbrev updating : List (List ℕ) → List (List ℕ)
updating updates = range 0 63 ∷ range 0 64 ∷ start ∷ true ∷ transition 0 ∷ true ∷ updates ++ (property 1 0 ∷ true ∷ node ∷ true ∷ [])

-- 64 times 64 combinations, and 64 times 65
abbrev most : List (List ℕ)
most = pick 0 0 63 ∷ pick 1 0 63 ∷ []

abbrev too_many : List (List ℕ)
too_many = pick 0 0 63 ∷ pick 1 0 64 ∷ []

abbrev picks : List Row
picks =
    -- C1.16: a pick, several, of one value
    (updating (pick 0 0 63 ∷ []), readable 2 4 1 7 9 1 11 0) ∷
    (updating (pick 1 5 5 ∷ pick 0 1 2 ∷ []), readable 2 4 1 8 10 1 12 0) ∷
    -- C1.8: an assignment behind a pick, and before one
    (updating (pick 0 0 1 ∷ assignment 1 ∷ variable 0 ∷ []), readable 2 4 1 9 11 1 13 0) ∷
    (updating (assignment 1 ∷ variable 0 ∷ pick 0 0 1 ∷ []), readable 2 4 1 9 11 1 13 0) ∷
    -- C1.16, C10.4: 2..1; below the range, and above it; d and byte 7; no such variable; so it is with an assignment's value (C10.3)
    (updating (pick 0 2 1 ∷ []), Err (Refusal.Field 6)) ∷
    (updating (pick 0 0xffff 1 ∷ []), Err (Refusal.Field 6)) ∷
    (updating (pick 0 0 64 ∷ []), Err (Refusal.Field 6)) ∷
    (updating (entry 0x08 0 0 1 1 ∷ []), Err (Refusal.Field 6)) ∷
    (updating (bytes 0x0800000001000001 ∷ []), Err (Refusal.Field 6)) ∷
    (updating (pick 2 0 0 ∷ []), Err (Refusal.Field 6)) ∷
    (updating (assignment 0 ∷ pick 1 0 1 ∷ []), Err (Refusal.Kind 7)) ∷
    -- C1.17, C10.6: a variable picked twice; picked and assigned, assigned and picked; 4 comes before 6 (C11.2)
    (updating (pick 0 0 1 ∷ pick 0 0 1 ∷ []), Err (Refusal.Repetition 7)) ∷
    (updating (pick 0 0 1 ∷ assignment 0 ∷ constant 1 ∷ []), Err (Refusal.Repetition 7)) ∷
    (updating (assignment 0 ∷ constant 1 ∷ pick 0 0 1 ∷ []), Err (Refusal.Repetition 8)) ∷
    (updating (pick 0 0 1 ∷ pick 0 1 0 ∷ []), Err (Refusal.Field 7)) ∷
    -- C10.3: elsewhere: among the variables, before the first transition, behind the nodes
    (take 2 (updating []) ++ (pick 0 0 1 ∷ drop 2 (updating [])), Err (Refusal.Kind 2)) ∷
    (take 4 (updating []) ++ (pick 0 0 1 ∷ drop 4 (updating [])), Err (Refusal.Kind 4)) ∷
    (updating [] ++ (pick 0 0 1 ∷ []), Err (Refusal.Kind 10)) ∷
    -- C10.22: 4,096 combinations pass, of each transition; of one that has more the record of kind 03 is named, of several such the first one's
    (updating most, readable 2 4 1 8 10 1 12 0) ∷
    (updating too_many, Err (Refusal.Picks 4)) ∷
    (updating (most ++ (transition 0 ∷ true ∷ most)), readable 2 4 2 12 14 1 16 0) ∷
    (updating (most ++ (transition 0 ∷ true ∷ too_many)), Err (Refusal.Picks 8)) ∷
    (updating (too_many ++ (transition 0 ∷ true ∷ too_many)), Err (Refusal.Picks 4)) ∷
    -- C11.1: behind 7, before 8 and before 9
    (set (updating too_many) 0 (range 0 32767), Err (Refusal.States 1)) ∷
    (take 3 (updating most) ++ vanishes 1000 1001 ++ drop 4 (updating most), Err (Refusal.Interval 4)) ∷
    (take 3 (updating too_many) ++ vanishes 1000 1001 ++ drop 4 (updating too_many), Err (Refusal.Picks 8)) ∷
    (updating most ++ (double 0 0 0 ∷ []), Err (Refusal.Edge 12)) ∷
    (updating too_many ++ (double 0 0 0 ∷ []), Err (Refusal.Picks 4)) ∷
    []

abbrev table : List Row
table = marked ++ divisions ++ choices ++ picks

-- ---- the theorem
-- what reading answers, row by row, is the table's other column
columns : map (λ (row : Row). read_of (flatten row.0)) table ≡ map (λ (row : Row). row.1) table
unfolding reading
columns = refl

pub examples : (row : Row) → Memᴰ row table → read_of (flatten row.0) ≡ row.1
examples = agree (λ row. read_of (flatten row.0)) (λ row. row.1) columns
