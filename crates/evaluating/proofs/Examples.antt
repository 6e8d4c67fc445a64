-- The definitions, computed on small examples: for numbers, truths, lengths, ranges, states and transitions each a table of questions and answers,
-- and one theorem, that the definition gives the answer at each of its rows. Assumes nothing.
use mathlib.Core.Path.{◌≡◌, refl}
use mathlib.Core.Bool.{Bool, true, false}
use mathlib.Core.List.{List, [], ◌∷◌, ◌++◌, map, flatten, Memᴰ}
use Prim.Native.Nat.{ℕ, zero, suc, ◌+◌, ◌*◌, ◌/◌}
use lib.IntN.{ℤ, pos, neg_ℤ}
use lib.ListN.{length, take, drop, replicate}
use Rattle.integers.specs.Bytes
use Rattle.integers.specs.Quotient
use Rattle.integers.specs.Radix
use Rattle.integers.specs.Tests
use Rattle.records.specs.Record
use Rattle.records.specs.Kind
use Rattle.records.specs.Walk
use Rattle.truths.specs.Table
use Rattle.sections.specs.Section
use Rattle.intervals.specs.Interval
use Rattle.reading.proofs.Files
use Rattle.reading.proofs.Files.{agree, range, transition, assignment, pick, constant, variable, plain}
use Rattle.evaluating.specs.declared.Stepped.{Stepped}
use Rattle.evaluating.specs.declared.Stepped.TheVariants.{Blocked, OutOfRange, To}
use Rattle.expressions.specs.Expression
use Rattle.expressions.specs.Spans
use Rattle.ranges.specs.Range
use Rattle.ranges.specs.Range.{lows_of, highs_of}
use Rattle.states.specs.Number
use Rattle.states.specs.Advance
use Rattle.states.specs.Number.{count_of, state_of, number_of}
use Rattle.states.specs.Advance.{advance_of}
use Rattle.evaluating.specs.Transition
use Rattle.evaluating.specs.Step
use Rattle.evaluating.specs.Step.{successors_of, ends, step_of}

-- ---- tables
-- f gives the answer at each row of a table of questions and answers
abbrev Answers : {X Y : Type 0} → (X → Y) → List (X × Y) → Type 0
Answers {X} {Y} f table = (row : X × Y) → Memᴰ row table → f row.0 ≡ row.1

-- so it does where the two columns, which antt computes, are the same
answers : {X Y : Type 0} (f : X → Y) (table : List (X × Y)) → map (λ (row : X × Y). f row.0) table ≡ map (λ (row : X × Y). row.1) table → Answers f table
answers f table e = agree (λ row. f row.0) (λ row. row.1) e

-- ---- expressions
abbrev over : ℕ → List ℕ → List ℕ
over kind x = plain kind ++ x

abbrev over_two : ℕ → List ℕ → List ℕ → List ℕ
over_two kind x y = plain kind ++ x ++ y

abbrev sum : List ℕ → List ℕ → List ℕ
sum = over_two 0x12

abbrev difference : List ℕ → List ℕ → List ℕ
difference = over_two 0x13

abbrev product : List ℕ → List ℕ → List ℕ
product = over_two 0x14

-- of an expression by a constant
abbrev quotient : List ℕ → ℕ → List ℕ
quotient x d = over_two 0x18 x (constant d)

abbrev remainder : List ℕ → ℕ → List ℕ
remainder x d = over_two 0x19 x (constant d)

abbrev indicator : List ℕ → List ℕ
indicator = over 0x15

abbrev yes : List ℕ
yes = plain 0x20

abbrev no : List ℕ
no = plain 0x21

abbrev not : List ℕ → List ℕ
not = over 0x22

abbrev and : List ℕ → List ℕ → List ℕ
and = over_two 0x23

abbrev or : List ℕ → List ℕ → List ℕ
or = over_two 0x24

abbrev implies : List ℕ → List ℕ → List ℕ
implies = over_two 0x25

abbrev iff : List ℕ → List ℕ → List ℕ
iff = over_two 0x26

abbrev equal : List ℕ → List ℕ → List ℕ
equal = over_two 0x27

abbrev less : List ℕ → List ℕ → List ℕ
less = over_two 0x28

abbrev at_most : List ℕ → List ℕ → List ℕ
at_most = over_two 0x29

-- n times f, one within the other, around x
abbrev nested : ℕ → (List ℕ → List ℕ) → List ℕ → List ℕ
nested zero f x = x
nested (suc n) f x = f (nested n f x)

-- ---- states
-- -n
abbrev minus : ℕ → ℤ
minus n = neg_ℤ (pos n)

-- the values of the first variables, and zero for the others of the twelve
abbrev one : ℤ → List ℤ
one x = x ∷ replicate 11 (pos 0)

abbrev two : ℤ → ℤ → List ℤ
two x y = x ∷ y ∷ replicate 10 (pos 0)

-- the state that expressions are evaluated in: variable 0 is 5, variable 1 is -3
abbrev here : List ℤ
here = two (pos 5) (minus 3)

-- ---- what expressions are worth
abbrev numbers : List (List ℕ × ℤ)
numbers =
    -- C2.3: 2, 256 + 44, -1 and the least, -32768
    (constant 2, pos 2) ∷
    (constant 300, pos 300) ∷
    (constant 0xffff, minus 1) ∷
    (constant 0x8000, minus 32768) ∷
    -- C2.4: one above zero, one below, one that the state leaves at zero
    (variable 0, pos 5) ∷
    (variable 1, minus 3) ∷
    (variable 11, pos 0) ∷
    -- C2.5: sum, difference (the first less the second), product
    (sum (variable 0) (variable 1), pos 2) ∷
    (difference (variable 0) (variable 1), pos 8) ∷
    (difference (variable 1) (variable 0), minus 8) ∷
    (product (variable 0) (variable 1), minus 15) ∷
    (product (variable 1) (variable 1), pos 9) ∷
    -- C2.6
    (indicator yes, pos 1) ∷
    (indicator no, pos 0) ∷
    -- C2.14: -7 by 2, -1 by 5, 0, multiples, the ends of the bounds, by 1, by 32,767
    (quotient (constant 0xfff9) 2, minus 4) ∷
    (remainder (constant 0xfff9) 2, pos 1) ∷
    (quotient (constant 0xffff) 5, minus 1) ∷
    (remainder (constant 0xffff) 5, pos 4) ∷
    (quotient (variable 11) 5, pos 0) ∷
    (remainder (variable 11) 5, pos 0) ∷
    (quotient (variable 1) 3, minus 1) ∷
    (remainder (variable 1) 3, pos 0) ∷
    (quotient (product (constant 1000) (constant 1000)) 7, pos 142857) ∷
    (remainder (product (constant 1000) (constant 1000)) 7, pos 1) ∷
    (quotient (product (constant 1000) (constant 0xfc18)) 7, minus 142858) ∷
    (remainder (product (constant 1000) (constant 0xfc18)) 7, pos 6) ∷
    (quotient (variable 1) 1, minus 3) ∷
    (remainder (variable 1) 1, pos 0) ∷
    (quotient (variable 1) 32767, minus 1) ∷
    (remainder (variable 1) 32767, pos 32764) ∷
    -- one within the other, over an indicator, and as the second operand: 5 + (-3 - 1 by 5 leaves 1)
    (remainder (quotient (product (variable 0) (variable 1)) 2) 5, pos 2) ∷
    (remainder (sum (indicator yes) (constant 4)) 5, pos 0) ∷
    (sum (variable 0) (remainder (difference (variable 1) (constant 1)) 5), pos 6) ∷
    -- an indicator within a product: 7 times whether -3 < 5
    (product (constant 7) (indicator (less (variable 1) (variable 0))), pos 7) ∷
    (product (indicator (less (variable 0) (variable 1))) (constant 7), pos 0) ∷
    -- C2.1: (5 - 2) - 4 and 5 - (2 - 4): where the second operand begins
    (difference (difference (variable 0) (constant 2)) (constant 4), minus 1) ∷
    (difference (variable 0) (difference (constant 2) (constant 4)), pos 7) ∷
    -- C2.12: 16 levels, fifteen sums, one within the other by their second operand, and by their first
    (nested 15 (sum (constant 1)) (variable 0), pos 20) ∷
    (nested 15 (λ x. sum x (constant 1)) (variable 0), pos 20) ∷
    []

numbers_hold : Answers (λ part. Expression.number 16 part here) numbers
unfolding Bytes.signed16 Quotient.quotient Quotient.remainder Kind.within Kind.signature_of Walk.spans Walk.span Interval.combine Interval.divide
    Expression.first_operand Expression.second_operand Expression.indicator_of Expression.compare_of
    Expression.number_by Expression.truth_by Expression.number
numbers_hold = answers (λ part. Expression.number 16 part here) numbers refl

abbrev truths : List (List ℕ × Bool)
truths =
    -- C2.7, C2.8
    (yes, true) ∷
    (no, false) ∷
    (not yes, false) ∷
    (not no, true) ∷
    -- C2.9: and
    (and yes yes, true) ∷
    (and yes no, false) ∷
    (and no yes, false) ∷
    -- or
    (or no yes, true) ∷
    (or yes no, true) ∷
    (or no no, false) ∷
    -- implies, false only where the first is true and the second is not
    (implies yes yes, true) ∷
    (implies yes no, false) ∷
    (implies no yes, true) ∷
    (implies no no, true) ∷
    -- iff
    (iff yes yes, true) ∷
    (iff yes no, false) ∷
    (iff no no, true) ∷
    -- C2.10: equal, of numbers below zero too
    (equal (variable 1) (constant 0xfffd), true) ∷
    (equal (variable 1) (constant 3), false) ∷
    (equal (variable 0) (constant 5), true) ∷
    (equal (variable 0) (constant 4), false) ∷
    -- less, the first than the second
    (less (constant 4) (variable 0), true) ∷
    (less (constant 5) (variable 0), false) ∷
    (less (constant 6) (variable 0), false) ∷
    (less (constant 0xfffc) (variable 1), true) ∷
    (less (constant 0xffff) (variable 1), false) ∷
    -- at most
    (at_most (constant 4) (variable 0), true) ∷
    (at_most (constant 5) (variable 0), true) ∷
    (at_most (constant 6) (variable 0), false) ∷
    -- a truth within a number within a truth: the indicator of 0 < 5, less 1, is 0
    (equal (difference (indicator (less (constant 0) (variable 0))) (constant 1)) (constant 0), true) ∷
    (equal (difference (constant 1) (indicator (equal (variable 0) (variable 1)))) (constant 0), false) ∷
    -- C2.1: where the second operand begins: (false and true) or true, false and (true or true)
    (or (and no yes) yes, true) ∷
    (and no (or yes yes), false) ∷
    -- C2.12: 16 levels, fifteen times not; an equal, and within it fourteen sums and a variable
    (nested 15 not yes, false) ∷
    (nested 15 not no, true) ∷
    (equal (nested 14 (λ x. sum x (constant 1)) (variable 0)) (constant 19), true) ∷
    []

truths_hold : Answers (λ part. Expression.truth 16 part here) truths
unfolding Bytes.signed16 Tests.eq_z Kind.within Kind.signature_of Walk.spans Walk.span Interval.combine
    Expression.first_operand Expression.second_operand Expression.indicator_of Expression.connect_of Expression.compare_of
    Expression.number_by Expression.truth_by Expression.truth
truths_hold = answers (λ part. Expression.truth 16 part here) truths refl

-- ---- files
abbrev assign : ℕ → List ℕ → List ℕ
assign a x = assignment a ++ x

-- A of C16.1: v in 0..2, start v = 0, at record 5 a step with guard v < 2 and v := v + 1, q v ≤ 2, node v ≤ 1
abbrev A : List ℕ
A = flatten Files.A

-- A with another step at record 5
abbrev stepping : List ℕ → List ℕ
stepping step = take (8 * 5) A ++ step ++ drop (8 * 13) A

-- the same with guard true
abbrev C : List ℕ
C = flatten Files.C

-- J of C16.1: two variables a, b in 0..1 that begin as 0 and 1; at record 10 a step with guard true that swaps them; node and q say that they differ
abbrev J : List ℕ
J = flatten Files.J

-- variables in 0..2 and in -1..1
abbrev pair : List ℕ
pair = range 0 2 ++ range 0xffff 1

-- variables in 0..1, twelve
abbrev twelve : List ℕ
twelve = flatten (replicate 12 (range 0 1))

-- ---- truths of a file
-- a file, a record and a state; whether the truth there holds
abbrev assertions : List ((List ℕ × ℕ × List ℤ) × Bool)
assertions =
    -- C6.3, C8.1: A's start, v = 0, its q, v ≤ 2, and its node, v ≤ 1
    ((A, 2, one (pos 0)), true) ∷
    ((A, 2, one (pos 1)), false) ∷
    ((A, 14, one (pos 2)), true) ∷
    ((A, 18, one (pos 1)), true) ∷
    ((A, 18, one (pos 2)), false) ∷
    -- J's start, a = 0 and b = 1, and its node, not a = b
    ((J, 3, two (pos 0) (pos 1)), true) ∷
    ((J, 3, two (pos 1) (pos 0)), false) ∷
    ((J, 22, two (pos 1) (pos 0)), true) ∷
    ((J, 22, two (pos 1) (pos 1)), false) ∷
    []

abbrev holding : List ℕ × ℕ × List ℤ → Bool
holding (file, at, state) = Expression.holds_of file at state

assertions_hold : Answers holding assertions
unfolding flatten Bytes.signed16 Tests.eq_z Kind.within Kind.signature_of Walk.spans Walk.span
    Expression.first_operand Expression.second_operand Expression.connect_of Expression.compare_of
    Expression.number_by Expression.truth_by Expression.truth Expression.holds_of
assertions_hold = answers holding assertions refl

-- ---- lengths
-- a file; how many records each of its expressions has, by the record that it begins at, and the first entry beyond
abbrev lengths : List (List ℕ × List ℕ)
lengths =
    ([], 0 ∷ []) ∷
    -- C2.2: no operand, one, two
    (variable 0, 1 ∷ 0 ∷ []) ∷
    (not (not yes), 3 ∷ 2 ∷ 1 ∷ 0 ∷ []) ∷
    (sum (variable 0) (constant 1), 3 ∷ 1 ∷ 1 ∷ 0 ∷ []) ∷
    -- where the second operand begins
    (or (and no yes) yes, 5 ∷ 3 ∷ 1 ∷ 1 ∷ 1 ∷ 0 ∷ []) ∷
    (and no (or yes yes), 5 ∷ 1 ∷ 3 ∷ 1 ∷ 1 ∷ 0 ∷ []) ∷
    -- C2.15: a divisor is an operand by itself
    (equal (remainder (sum (variable 0) (constant 1)) 5) (constant 0), 7 ∷ 5 ∷ 3 ∷ 1 ∷ 1 ∷ 1 ∷ 1 ∷ 0 ∷ []) ∷
    -- A's start, guard, assigned value, q and node have three records each
    (A, 1 ∷ 1 ∷ 3 ∷ 1 ∷ 1 ∷ 1 ∷ 3 ∷ 1 ∷ 1 ∷ 1 ∷ 3 ∷ 1 ∷ 1 ∷ 1 ∷ 3 ∷ 1 ∷ 1 ∷ 1 ∷ 3 ∷ 1 ∷ 1 ∷ 0 ∷ []) ∷
    []

abbrev lengths_of : List ℕ → List ℕ
lengths_of file = take (length file / 8 + 1) (Spans.spans_of file)

lengths_hold : Answers lengths_of lengths
unfolding flatten Kind.within Kind.signature_of Spans.span_by Spans.with_span Spans.spans_from Spans.spans_of
lengths_hold = answers lengths_of lengths refl

-- ---- ranges
-- C4.3: a file and how many variables it has; the low ends, the high ends and how many states there are
abbrev ranges : List ((List ℕ × ℕ) × (List ℤ × List ℤ × ℕ))
ranges =
    ((pair, 2), (two (pos 0) (minus 1), two (pos 2) (pos 1), 9)) ∷
    -- C4.2: its first variable alone: the second is idle
    ((pair, 1), (one (pos 0), one (pos 2), 3)) ∷
    -- all that two bytes can hold
    ((range 0x8000 0x7fff, 1), (one (minus 32768), one (pos 32767), 65536)) ∷
    ((twelve, 12), (replicate 12 (pos 0), replicate 12 (pos 1), 4096)) ∷
    ((A, 1), (one (pos 0), one (pos 2), 3)) ∷
    ((J, 2), (two (pos 0) (pos 0), two (pos 1) (pos 1), 4)) ∷
    []

abbrev ranges_of : List ℕ × ℕ → List ℤ × List ℤ × ℕ
ranges_of (file, vars) = (lows_of file vars, highs_of file vars, count_of (lows_of file vars) (highs_of file vars))

ranges_hold : Answers ranges_of ranges
unfolding flatten Bytes.signed16 Radix.offset_of Table.tabulate Table.table_of Range.ends_of Number.size_of Number.count_of
ranges_hold = answers ranges_of ranges refl

-- ---- states and their numbers
-- C4.4 to C4.6: a file, how many variables it has, and a number; its state, that state's number, and the next state
abbrev states : List ((List ℕ × ℕ × ℕ) × (List ℤ × ℕ × List ℤ))
states =
    -- the first state, and one in the middle
    ((pair, 2, 0), (two (pos 0) (minus 1), 0, two (pos 0) (pos 0))) ∷
    ((pair, 2, 4), (two (pos 1) (pos 0), 4, two (pos 1) (pos 1))) ∷
    -- the last variable is at its high end: it starts anew, and the one before it moves on
    ((pair, 2, 2), (two (pos 0) (pos 1), 2, two (pos 1) (minus 1))) ∷
    ((pair, 2, 5), (two (pos 1) (pos 1), 5, two (pos 2) (minus 1))) ∷
    -- the last state, and behind it the first
    ((pair, 2, 8), (two (pos 2) (pos 1), 8, two (pos 0) (minus 1))) ∷
    -- the last of twelve variables is the fastest; eleven of them start anew
    ((twelve, 12, 1), (zeros 11 ++ ones 1, 1, zeros 10 ++ ones 1 ++ zeros 1)) ∷
    ((twelve, 12, 2048), (ones 1 ++ zeros 11, 2048, ones 1 ++ zeros 10 ++ ones 1)) ∷
    ((twelve, 12, 2047), (zeros 1 ++ ones 11, 2047, ones 1 ++ zeros 11)) ∷
    ((twelve, 12, 4095), (ones 12, 4095, zeros 12)) ∷
    []
  where
    zeros : ℕ → List ℤ
    zeros n = replicate n (pos 0)

    ones : ℕ → List ℤ
    ones n = replicate n (pos 1)

abbrev state_row : List ℕ × ℕ × ℕ → List ℤ × ℕ × List ℤ
state_row (file, vars, n) =
    let lows = lows_of file vars in
    let highs = highs_of file vars in
    let state = state_of lows highs n in
    (state, number_of lows highs state, advance_of lows highs state)

states_hold : Answers state_row states
unfolding flatten Bytes.signed16 Radix.at Radix.offset_of Table.tabulate Table.table_of Range.ends_of
    Number.size_of Number.count_of Number.state_of Number.number_of Advance.last_of Advance.advance_of
states_hold = answers state_row states refl

-- ---- transitions
-- a file, how many variables it has, the transition's record and a state; what the step is, and the successors
abbrev Question : Type 0
Question = List ℕ × ℕ × ℕ × List ℤ

abbrev row : Question → Stepped → List (List ℤ) → Question × (Stepped × List (List ℤ))
row q step successors = (q, (step, successors))

-- one successor; none
abbrev leads : Question → List ℤ → Question × (Stepped × List (List ℤ))
leads q next = row q (To (ends next next)) (next ∷ [])

abbrev stays : Question → Stepped → Question × (Stepped × List (List ℤ))
stays q step = row q step []

abbrev steps : List (Question × (Stepped × List (List ℤ)))
steps =
    -- C5.2: A's step: v := v + 1 where v < 2
    leads (A, 1, 5, one (pos 0)) (one (pos 1)) ∷
    leads (A, 1, 5, one (pos 1)) (one (pos 2)) ∷
    stays (A, 1, 5, one (pos 2)) Blocked ∷
    -- C5.2: C's, with guard true: at 2 the value is out of range, so the step is not enabled, and nothing is clamped
    leads (C, 1, 5, one (pos 1)) (one (pos 2)) ∷
    stays (C, 1, 5, one (pos 2)) OutOfRange ∷
    -- v := v - 1 leaves the range at its low end
    leads (down, 1, 5, one (pos 1)) (one (pos 0)) ∷
    stays (down, 1, 5, one (pos 0)) OutOfRange ∷
    -- no update
    leads (stepping (transition 0 ++ yes), 1, 5, one (pos 1)) (one (pos 1)) ∷
    -- C5.1, C5.3: J's swaps, worked out together
    leads (J, 2, 10, two (pos 0) (pos 1)) (two (pos 1) (pos 0)) ∷
    leads (J, 2, 10, two (pos 1) (pos 0)) (two (pos 0) (pos 1)) ∷
    leads (J, 2, 10, two (pos 1) (pos 1)) (two (pos 1) (pos 1)) ∷
    -- b := 0, a := a + 1: where a is 1, the first value is in range and the second not, so neither is assigned
    stays (both, 2, 2, two (pos 1) (pos 1)) OutOfRange ∷
    leads (both, 2, 2, two (pos 0) (pos 1)) (two (pos 1) (pos 0)) ∷
    -- C5.3, C5.6: a pick of v's whole range, of a part of it, of one value, and under a false guard
    row (stepping (transition 0 ++ yes ++ pick 0 0 2), 1, 5, one (pos 1)) (To (ends (one (pos 0)) (one (pos 2)))) (one (pos 0) ∷ one (pos 1) ∷ one (pos 2) ∷ []) ∷
    row (stepping (transition 0 ++ yes ++ pick 0 1 2), 1, 5, one (pos 0)) (To (ends (one (pos 1)) (one (pos 2)))) (one (pos 1) ∷ one (pos 2) ∷ []) ∷
    leads (stepping (transition 0 ++ yes ++ pick 0 2 2), 1, 5, one (pos 0)) (one (pos 2)) ∷
    stays (stepping (transition 0 ++ no ++ pick 0 0 2), 1, 5, one (pos 1)) Blocked ∷
    -- below 0, the other variable as it was
    row (negative (pick 1 0xffff 1), 2, 2, two (pos 2) (pos 0)) (To (ends (two (pos 2) (minus 1)) (two (pos 2) (pos 1))))
    (two (pos 2) (minus 1) ∷ two (pos 2) (pos 0) ∷ two (pos 2) (pos 1) ∷ []) ∷
    -- two picks: by their numbers, whichever stands first
    row (negative (pick 1 0xffff 0 ++ pick 0 1 2), 2, 2, two (pos 0) (pos 0)) (To (ends (two (pos 1) (minus 1)) (two (pos 2) (pos 0))))
    (two (pos 1) (minus 1) ∷ two (pos 1) (pos 0) ∷ two (pos 2) (minus 1) ∷ two (pos 2) (pos 0) ∷ []) ∷
    -- an assignment behind a pick, and a pick behind an assignment: the value is that of the state at hand; out of range, there is no successor
    row (negative (pick 0 1 2 ++ add), 2, 2, two (pos 0) (pos 0)) (To (ends (two (pos 1) (pos 1)) (two (pos 2) (pos 1))))
    (two (pos 1) (pos 1) ∷ two (pos 2) (pos 1) ∷ []) ∷
    row (negative (add ++ pick 0 1 2), 2, 2, two (pos 0) (pos 0)) (To (ends (two (pos 1) (pos 1)) (two (pos 2) (pos 1))))
    (two (pos 1) (pos 1) ∷ two (pos 2) (pos 1) ∷ []) ∷
    stays (negative (pick 0 1 2 ++ add), 2, 2, two (pos 0) (pos 1)) OutOfRange ∷
    stays (negative (add ++ pick 0 1 2), 2, 2, two (pos 0) (pos 1)) OutOfRange ∷
    []
  where
    down : List ℕ
    down = stepping (transition 0 ++ yes ++ assign 0 (difference (variable 0) (constant 1)))

    both : List ℕ
    both = take (8 * 2) J ++ transition 0 ++ yes ++ assign 1 (constant 0) ++ assign 0 (sum (variable 0) (constant 1))

    -- variables in 0..2 and in -1..1, and a step with these updates
    negative : List ℕ → List ℕ
    negative updates = pair ++ transition 0 ++ yes ++ updates

    add : List ℕ
    add = assign 1 (sum (variable 1) (constant 1))

abbrev steps_of : Question → Stepped × List (List ℤ)
steps_of (file, vars, at, state) =
    (step_of (lows_of file vars) (highs_of file vars) file at state, successors_of (lows_of file vars) (highs_of file vars) file at state)

steps_hold : Answers steps_of steps
unfolding flatten Bytes.signed16 Record.kind_is Kind.within Kind.signature_of Walk.spans Walk.span Table.tabulate Table.table_of Interval.combine
    Expression.first_operand Expression.second_operand Expression.compare_of
    Expression.number_by Expression.truth_by Expression.number Expression.truth Range.ends_of
    Radix.at Radix.offset_of Number.size_of Number.count_of Number.state_of Number.states_between
    Expression.behind Section.is_update Transition.assignment_at Transition.pick_at Transition.update_at Transition.updates_from
    Transition.in_range_of Transition.all_in_range Transition.updated
    Step.guard_of Transition.update_list Step.enabled_of Step.lowest_of Step.highest_of Step.successors_of Step.step_of
steps_hold = answers steps_of steps refl
