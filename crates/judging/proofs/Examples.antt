-- The files A to J of C16.1, from the bytes of the file to the bytes of the report, and the tests made: one table, which antt computes, and one theorem
-- over its rows, with files that break each kind of condition, or break one at several states, or that a careless checker would get wrong. Then a table of
-- lists of conditions and one of single tests.
-- Assumes nothing.
use mathlib.Core.Path.{◌≡◌, refl}
use mathlib.Core.Bool
use mathlib.Core.List.{List, [], ◌∷◌, ◌++◌, map, flatten, Memᴰ}
use Prim.Native.Nat.{ℕ}
use lib.ListN.{length, take, drop, set, replicate}
use Rattle.std.specs.declared.result.Result.{Result}
use Rattle.std.specs.declared.result.Result.TheVariants.{Ok, Err}
use Rattle.shapes.specs.declared.Outline.{Outline}
use Rattle.shapes.specs.declared.Refusal.{Refusal}
use Rattle.diagrams.specs.Diagram.{found_of, diagram_of}
use Rattle.diagrams.proofs.Files.{agree, bytes, range, start, transition, assignment, pick, property, node, single, double}
use Rattle.diagrams.proofs.Files.{constant, variable, plain, true, is, A, B, C, D, E, F, G, H, I, J}
use Rattle.conditions.specs.Condition.{conditions_of}
use Rattle.verdicts.specs.Verdict
use Rattle.verdicts.specs.Verdict.{check_of, Single, single_of}
use Rattle.report.specs.Report
use Rattle.report.specs.Report.{report_of}
use Rattle.conditions.specs.declared.Condition.{Condition}
use Rattle.conditions.specs.declared.Condition.TheVariants.{Start, Entry, Cover, Range, Step, Enabling}
use Rattle.deciding.proofs.Computing.{deciding}

-- ---- reports
-- a buffer before the check
abbrev before : List ℕ
before = replicate 34 170

-- the buffer after the check of a file, and the tests made
abbrev checked : List (List ℕ) → List ℕ × ℕ
checked file = let v = check_of (flatten file) (length before) in (report_of v before, v.tests)

-- a file, its report's first sixteen bytes, as two numbers, and the tests made; zeros follow in the buffer, and its last two bytes as they were
abbrev Row : Type 0
Row = List (List ℕ) × ℕ × ℕ × ℕ

abbrev reported : Row → List ℕ × ℕ
reported (file, named, values, tests) = (bytes named ++ bytes values ++ replicate 16 0 ++ replicate 2 170, tests)

abbrev marked : List Row
marked =
    (A, 0x1100000003000000, 0x0100000000000000, 11) ∷
    (B, 0x00ffff0004000000, 0, 12) ∷
    (C, 0x1000000002000000, 0x0200000000000000, 9) ∷
    (D, 0x00ffff0008000000, 0, 24) ∷
    (E, 0x1102000006000000, 0, 19) ∷
    (F, 0x09ffff001e000000, 0, 0) ∷
    (G, 0x0affff0002000000, 0, 0) ∷
    (H, 0x00ffff0008000000, 0, 24) ∷
    (I, 0x09ffff0028000000, 0, 0) ∷
    (J, 0x00ffff0004000000, 0, 16) ∷
    -- C10.3, C10.2: an empty file; 7 bytes
    ([], 0x03ffff0000000000, 0, 0) ∷
    (take 7 (range 0 2) ∷ [], 0x02ffff0000000000, 0, 0) ∷
    []

abbrev broken : List Row
broken =
    -- C10.13 to C10.15, C10.18: a starting state in no node, p in no node, a node without its q, a node whose double transition is disabled
    (set A 4 (constant 2), 0x0dffff0000000000, 0x0200000000000000, 3) ∷
    (set H 37 (constant 1), 0x0effff0000000000, 0, 1) ∷
    (set H 25 (constant 1), 0x0f02ff0003000000, 0, 10) ∷
    (set (set (set D 23 (plain 0x29)) 24 (constant 1)) 25 (variable 0), 0x1201000004000000, 0x0200000000000000, 15) ∷
    -- C14.3: a negative value
    (set (set (set A 0 (range 0xffff 0)) 4 (constant 0xffff)) 20 (constant 0xfffe), 0x0dffff0000000000, 0xffff000000000000, 1) ∷
    -- C8.11: without an edge a transition must keep the node; with an edge back to it, so it does in B
    (B ++ (single 0 0 0 ∷ []), 0x00ffff0004000000, 0, 12) ∷
    -- C8.12: after a double step the source node is not enough: E, its node 2 "v at most 1"
    (set (set E 27 (plain 0x29)) 29 (constant 1), 0x1102000006000000, 0, 19) ∷
    -- C8.14, C10.16: a broken condition counts at states that no run reaches: B, its guard "v = 2"
    (set B 6 (plain 0x27), 0x1000000002000000, 0x0200000000000000, 9) ∷
    -- C12.5, C12.7: broken at several states, the lowest is named: A, its start "v at most 2" and its node "v at most 0"; J, its q false, at 0 1 and 1 0
    (set (set (set A 2 (plain 0x29)) 4 (constant 2)) 20 (constant 0), 0x0dffff0000000000, 0x0100000000000000, 2) ∷
    (set (set (set J 18 (plain 0x26)) 19 true) 20 true, 0x0f00ff0001000000, 0x0000010000000000, 6) ∷
    []

-- C2.14, C2.15: five pages in a ring, and a reader that begins on page 0 and steps to the page of that number
abbrev ring : List (List ℕ) → List (List ℕ)
ring next = (range 0 4 ∷ start ∷ is 0 0) ++ (transition 1 ∷ true ∷ assignment 0 ∷ next)

-- x by 5
abbrev quotient : List (List ℕ) → List (List ℕ)
quotient x = plain 0x18 ∷ x ++ (constant 5 ∷ [])

abbrev remainder : List (List ℕ) → List (List ℕ)
remainder x = plain 0x19 ∷ x ++ (constant 5 ∷ [])

-- the number one more than its page's, and one less
abbrev onward : List (List ℕ)
onward = plain 0x12 ∷ variable 0 ∷ constant 1 ∷ []

abbrev back : List (List ℕ)
back = plain 0x13 ∷ variable 0 ∷ constant 1 ∷ []

-- what `back` leaves by a quotient that is rounded towards 0: less 5 times the quotient of itself, or of 4 more where it is below 0
abbrev truncated : List (List ℕ)
truncated =
    plain 0x13 ∷ back ++ (plain 0x14 ∷ constant 5 ∷ quotient (plain 0x12 ∷ back ++ (plain 0x14 ∷ constant 4 ∷ plain 0x15 ∷ plain 0x28 ∷ back ++ (constant 0 ∷ []))))

-- an invariance that any page satisfies, so that it says: the step leads to a page
abbrev stays_inside : List (List ℕ)
stays_inside = property 1 0 ∷ true ∷ node ∷ true ∷ []

-- a chain: wherever the reader is, it comes to page 2; node i is "i pages before page 2"
abbrev arrives : List (List ℕ)
arrives =
    (property 3 0 ∷ true ∷ is 0 2) ++ away 0 ++ away 1 ++ away 2 ++ away 3 ++ away 4 ++ (double 0 4 3 ∷ double 0 3 2 ∷ double 0 2 1 ∷ double 0 1 0 ∷ [])
  where
    away : ℕ → List (List ℕ)
    away i = node ∷ plain 0x27 ∷ remainder (plain 0x13 ∷ constant 2 ∷ variable 0 ∷ []) ++ (constant i ∷ [])

abbrev rings : List Row
rings =
    -- forward and back the remainder wraps; without it, or truncated, the step leaves the ring: from page 4, and back from page 0
    (ring (remainder onward) ++ stays_inside, 0x00ffff0004000000, 0, 20) ∷
    (ring (remainder back) ++ stays_inside, 0x00ffff0004000000, 0, 20) ∷
    (ring onward ++ stays_inside, 0x1000000002000000, 0x0400000000000000, 15) ∷
    (ring truncated ++ stays_inside, 0x1000000002000000, 0, 11) ∷
    -- forward the reader comes to page 2; back it goes the wrong way, from page 1 to page 0, which is node 2
    (ring (remainder onward) ++ arrives, 0x00ffff000e000000, 0, 70) ∷
    (ring (remainder back) ++ arrives, 0x1101000003000000, 0x0100000000000000, 17) ∷
    -- C10.19: by the variable itself
    (ring (plain 0x19 ∷ onward ++ (variable 0 ∷ [])) ++ stays_inside, 0x13ffff000c000000, 0, 0) ∷
    []

-- C10.20: one of the files A to J with another start
abbrev starting : List (List ℕ) → List (List ℕ) → List (List ℕ)
starting truth file = take 2 file ++ truth ++ drop 5 file

-- v is 3, which no state has; a number is odd, by its remainder, which boxes see at single states only
abbrev beyond : List (List ℕ)
beyond = is 0 3

abbrev odd : List (List ℕ) → List (List ℕ)
odd x = plain 0x27 ∷ plain 0x19 ∷ x ++ (constant 2 ∷ constant 1 ∷ [])

abbrev starts : List Row
starts =
    -- no starting state: of B, whose conditions all hold, in several ways; in a chain, and in a wait-for
    (starting (plain 0x21 ∷ []) B, 0x14ffff0000000000, 0, 0) ∷
    (starting beyond B, 0x14ffff0000000000, 0, 0) ∷
    (starting (odd (plain 0x12 ∷ variable 0 ∷ variable 0 ∷ [])) B, 0x14ffff0000000000, 0, 0) ∷
    (starting beyond D, 0x14ffff0000000000, 0, 0) ∷
    (starting beyond H, 0x14ffff0000000000, 0, 0) ∷
    -- one starting state is enough: the second, by its value and as the odd one; the last, of an invariance and of a chain
    (starting (is 0 1) B, 0x00ffff0004000000, 0, 12) ∷
    (starting (odd (variable 0 ∷ [])) B, 0x00ffff0004000000, 0, 12) ∷
    (starting (is 0 2) B, 0x00ffff0004000000, 0, 12) ∷
    (starting (is 0 2) D, 0x00ffff0008000000, 0, 24) ∷
    -- C11.1: before any condition, A's step and E's; behind 9 and 10, F's and G's
    (starting beyond A, 0x14ffff0000000000, 0, 0) ∷
    (starting beyond E, 0x14ffff0000000000, 0, 0) ∷
    (starting beyond F, 0x09ffff001e000000, 0, 0) ∷
    (starting beyond G, 0x0affff0002000000, 0, 0) ∷
    []

-- C1.16: one of the files A to H with other updates of its step
abbrev updating : List (List ℕ) → List (List ℕ) → List (List ℕ)
updating updates file = take 9 file ++ updates ++ drop 13 file

-- an invariance v ≤ 2 by this node, its start v = 1, its step a pick while v is less than 2
abbrev kept : ℕ → ℕ → List (List ℕ) → List (List ℕ)
kept low high truth = updating (pick 0 low high ∷ []) (starting (is 0 1) (take 18 A ++ truth))

-- D with another way out of node 2
abbrev D' : List (List ℕ)
D' = D ++ (double 0 2 0 ∷ [])

-- by the nodes v ≤ 0 and 1 ≤ v, with these edges
abbrev between : List (List ℕ) → List (List ℕ)
between edges = take 18 A ++ (plain 0x29 ∷ variable 0 ∷ constant 0 ∷ node ∷ plain 0x29 ∷ constant 1 ∷ variable 0 ∷ edges)

-- J with x one more and y picked
abbrev beside : List (List ℕ)
beside = take 12 J ++ (assignment 0 ∷ plain 0x12 ∷ variable 0 ∷ constant 1 ∷ pick 1 0 1 ∷ drop 16 J)

abbrev picks : List Row
picks =
    -- C8.11: every value of the pick keeps B's node; A's is left by the last one, or by the only one; by none of 0..1; without an update it is kept
    (updating (pick 0 0 2 ∷ []) B, 0x00ffff0004000000, 0, 12) ∷
    (updating (pick 0 0 2 ∷ []) A, 0x1100000003000000, 0, 10) ∷
    (updating (pick 0 2 2 ∷ []) A, 0x1100000003000000, 0, 10) ∷
    (updating (pick 0 0 1 ∷ []) A, 0x00ffff0004000000, 0, 12) ∷
    (updating [] A, 0x00ffff0004000000, 0, 12) ∷
    -- left by the first one; by one between
    (kept 0 2 (plain 0x29 ∷ constant 1 ∷ variable 0 ∷ []), 0x1100000003000000, 0x0100000000000000, 11) ∷
    (kept 1 2 (plain 0x29 ∷ constant 1 ∷ variable 0 ∷ []), 0x00ffff0004000000, 0, 12) ∷
    (updating (pick 0 0 2 ∷ []) (take 18 A ++ (plain 0x22 ∷ is 0 1)), 0x1100000003000000, 0, 10) ∷
    -- successors satisfy different targets, where there are edges to both
    (updating (pick 0 0 2 ∷ []) (between (single 0 0 1 ∷ single 0 1 0 ∷ [])), 0x00ffff0007000000, 0, 21) ∷
    (updating (pick 0 0 2 ∷ []) (between (single 0 1 0 ∷ [])), 0x1100000004000000, 0, 13) ∷
    -- C5.2, C8.10: a value out of range beside a pick
    (beside, 0x1000000002000000, 0x0100000000000000, 11) ∷
    -- C8.12: a double step that may pick another node than its target, or its own; one that may not
    (updating (pick 0 1 2 ∷ []) D, 0x1101000003000000, 0x0100000000000000, 11) ∷
    (updating (pick 0 2 2 ∷ []) D, 0x1102000006000000, 0, 19) ∷
    (updating (pick 0 1 2 ∷ []) D', 0x1101000003000000, 0x0100000000000000, 11) ∷
    (updating (pick 0 2 2 ∷ []) D', 0x00ffff0008000000, 0, 24) ∷
    -- C10.22, C11.1: 64 × 65 combinations, before a start that no state satisfies
    (range 0 63 ∷ range 0 64 ∷ start ∷ plain 0x21 ∷ transition 0 ∷ true ∷ pick 0 0 63 ∷ pick 1 0 64 ∷ stays_inside, 0x16ffff0004000000, 0, 0) ∷
    []

abbrev table : List Row
table = marked ++ broken ++ rings ++ starts ++ picks

-- ---- lists of conditions (C8.3 to C8.6)
abbrev listed : List ℕ → Result Outline Refusal → List Condition
listed file (Ok o) = conditions_of file (diagram_of file o)
listed file (Err refusal) = []

abbrev Listing : Type 0
Listing = List (List ℕ) × List Condition

abbrev lists : List Listing
lists =
    (A, Start ∷ Cover 0 ∷ Range 0 0 ∷ Step 0 0 ∷ []) ∷
    (H, Entry ∷ Cover 0 ∷ Cover 1 ∷ Cover 2 ∷ Range 1 0 ∷ Step 1 0 ∷ Range 2 0 ∷ Step 2 0 ∷ []) ∷
    (D, Entry ∷ Cover 0 ∷ Range 1 0 ∷ Step 1 0 ∷ Enabling 1 0 ∷ Range 2 0 ∷ Step 2 0 ∷ Enabling 2 0 ∷ []) ∷
    -- D with its step twice: the double transition is the first of two
    (
      take 13 D ++ drop 5 D,
      Entry ∷ Cover 0 ∷ Range 1 0 ∷ Step 1 0 ∷ Enabling 1 0 ∷ Range 1 1 ∷ Step 1 1 ∷
          Range 2 0 ∷ Step 2 0 ∷ Enabling 2 0 ∷ Range 2 1 ∷ Step 2 1 ∷ [],
    ) ∷
    []

abbrev listed_by : List (List ℕ) → List Condition
listed_by file = listed (flatten file) (found_of (flatten file))

-- ---- single tests: a file, a condition's number and a state's (C13.1, C13.3)
abbrev Question : Type 0
Question = List (List ℕ) × ℕ × ℕ

abbrev answered : Question → Single
answered (file, condition, state) = single_of (flatten file) condition state

abbrev singles : List (Question × Single)
singles =
    ((A, 3, 0), Ok Bool.true) ∷
    ((A, 3, 1), Ok Bool.false) ∷
    ((A, 3, 2), Ok Bool.true) ∷
    ((E, 6, 0), Ok Bool.false) ∷
    -- C10.11, C10.12, C13.2: a condition number too large is 11, a state number 12, both 11; a file that is not readable comes first
    ((A, 4, 0), Err Refusal.ConditionNumber) ∷
    ((A, 3, 3), Err Refusal.StateNumber) ∷
    ((A, 4, 3), Err Refusal.ConditionNumber) ∷
    ((F, 99, 99), Err (Refusal.Edge 30)) ∷
    -- C10.20, C13.2: without a starting state it is 20, whatever the numbers; 10 comes before
    ((starting beyond B, 0, 0), Err Refusal.NoStart) ∷
    ((starting beyond A, 4, 0), Err Refusal.NoStart) ∷
    ((starting beyond A, 3, 3), Err Refusal.NoStart) ∷
    ((starting beyond D, 99, 99), Err Refusal.NoStart) ∷
    ((starting beyond G, 99, 99), Err (Refusal.NoWayDown 2)) ∷
    ((starting (is 0 2) A, 0, 2), Ok Bool.false) ∷
    -- C8.10, C8.11: a step with a pick: from 0 1 it may lead to 1 1; at 1 0 a value is out of range, so that it leads nowhere
    ((beside, 3, 1), Ok Bool.false) ∷
    ((beside, 3, 2), Ok Bool.true) ∷
    ((beside, 2, 2), Ok Bool.false) ∷
    []

-- ---- what antt computes
-- `unfolding reporting` unfolds all that stands here
unfoldable pub reporting : Unit {0}
unfolding deciding Verdict.single_judged Verdict.single_of Report.value_bytes Report.report_bytes Report.report_of
reporting = tt

-- the columns of each table
columns : (map (λ (row : Row). checked row.0) table ≡ map reported table)
    × (map (λ (row : Listing). listed_by row.0) lists ≡ map (λ (row : Listing). row.1) lists)
    × (map (λ (row : Question × Single). answered row.0) singles ≡ map (λ (row : Question × Single). row.1) singles)
unfolding reporting
columns = (refl, refl, refl)

-- ---- the theorems
-- C16.1, C14.1 to C14.6: report and tests of each row
pub examples : (row : Row) → Memᴰ row table → checked row.0 ≡ reported row
examples = agree (λ row. checked row.0) reported columns.0

pub lists_hold : (row : Listing) → Memᴰ row lists → listed_by row.0 ≡ row.1
lists_hold = agree (λ row. listed_by row.0) (λ row. row.1) columns.1

pub singles_hold : (row : Question × Single) → Memᴰ row singles → answered row.0 ≡ row.1
singles_hold = agree (λ row. answered row.0) (λ row. row.1) columns.2
