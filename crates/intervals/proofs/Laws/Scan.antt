-- The scan of refusal 8, followed from record to record: what is left of it decides for the whole file.
--     scan_begins            at the first record all of it is left
--     scan_over              behind the last record it ends
--     scan_skip, scan_head   a record that begins no expression, such as the first of a section's item, is passed over
--     scan_out, scan_next    an expression that goes out is refused; behind one that stays within the scan goes on
--     scan_expression        one of the two holds of an expression that walks to its end
-- Assumes nothing.
use mathlib.Core.Path.{◌≡◌, refl, sym, ◌∙◌}
use mathlib.Core.Bool.{Bool, true, false, not}
use mathlib.Core.List.{List}
use Prim.Native.Nat.{ℕ, zero, suc, ◌+◌, ◌-◌, ◌/◌, ◌<◌, ◌≤◌}
use native.Mathlib.Numerals.{sub-one}
use native.Mathlib.Omega.{arith}
use borrow.Author.Tests.{lt-ltb, le-ltb, eq-eqb, ne_eqb}
use lib.ListN.{length}
use Rattle.std.specs.declared.result.Result.{Result}
use Rattle.std.specs.declared.result.Result.TheVariants.{Ok, Err}
use Rattle.shapes.specs.declared.Refusal.{Refusal}
use Rattle.shapes.specs.Refusal.{and_then}
use Rattle.integers.specs.declared.Interval.{Interval}
use Rattle.records.specs.Record.{kind_is}
use Rattle.std.specs.declared.option.Option.TheVariants.{None, Some}
use Rattle.std.specs.declared.option.Option.{Option}
use Rattle.std.specs.Option.{is_some, is_none}
use Rattle.records.specs.declared.kinds.Sort.{Sort}
use Rattle.records.specs.Kind.{signature_of, signature_at}
use Rattle.records.specs.Walk.{Walked, walk_of}
use Rattle.records.proofs.Laws.Record.{kind_is_lem}
use Rattle.records.proofs.Laws.Kind.{has_sort}
use Rattle.records.proofs.Laws.Walk.{walk_opens}
use Rattle.intervals.specs.declared.Analysis.{Analysis}
use Rattle.intervals.specs.Interval.{within, analysis_of, analysed_from, intervals_of}
use Rattle.intervals.proofs.Laws.Interval.{ends_at, analysis_walk, analysis_ahead}

-- the expressions from `at` on, with steps enough for them, give the answer
pub record Scan (file : List ℕ) (answer : Walked) (at : ℕ) : Type 0 where
  pub left : ℕ
  pub enough : length file / 8 ≤ at + left
  pub gives : analysed_from file left at ≡ answer

-- the test that there is none
pub no_sort : (o : Option Sort) {b : Bool} → is_some o ≡ not b → b ≡ true → o ≡ None
no_sort None e is = refl
no_sort (Some s) e is = let z : ◌≡◌ {A = ℕ} 0 1 = (let y = rw is at e in cc) in absurd (omega arith)

pub one_sort : (o : Option Sort) {b : Bool} → is_some o ≡ not b → b ≡ false → o ≡ None → ⊥
one_sort None e is none = let z : ◌≡◌ {A = ℕ} 0 1 = (let y = rw is at e in cc) in omega arith
one_sort (Some s) e is none = let z : ◌≡◌ {A = ℕ} 0 1 = cc in omega arith

some_sort : {o : Option Sort} → (o ≡ None → ⊥) → is_none o ≡ false
some_sort {o = None} h = absurd (h refl)
some_sort {o = Some s} h = refl

module _ (file : List ℕ) (answer : Walked) where
  pub scan_begins : intervals_of file ≡ answer → Scan file answer 0
  unfolding intervals_of
  scan_begins e = record { left = length file / 8; enough = omega arith; gives = e }

  module _ (at : ℕ) where
    analysed_over : (left : ℕ) → length file / 8 ≤ at → analysed_from file left at ≡ Ok at
    unfolding analysed_from
    analysed_over zero h = refl
    analysed_over (suc left) h = rw (le-ltb _ _ h)

    pub scan_over : length file / 8 ≤ at → Scan file answer at → answer ≡ Ok at
    scan_over h s = sym s.gives ∙ analysed_over s.left h

    module _ (here : at < length file / 8) where
      analysed_skip : (left : ℕ) → length file / 8 ≤ at + left → (signature_at file at).sort ≡ None
          → analysed_from file left at ≡ analysed_from file (left - 1) (at + 1)
      unfolding analysed_from
      analysed_skip zero l u = absurd (omega arith)
      analysed_skip (suc left) l u = rw (lt-ltb _ _ here, u, sub-one)

      pub scan_skip : (signature_at file at).sort ≡ None → Scan file answer at → Scan file answer (at + 1)
      scan_skip u s =
          let l = s.enough in
          record { left = s.left - 1; enough = omega arith; gives = sym (analysed_skip s.left l u) ∙ s.gives }

      module _ (some : (signature_at file at).sort ≡ None → ⊥) where
        analysed_here : (left : ℕ) → length file / 8 ≤ at + left
            → analysed_from file left at ≡ and_then (analysis_of file 16 at) λ i. analysed_from file (left - 1) i.end
        unfolding analysed_from
        analysed_here zero l = absurd (omega arith)
        analysed_here (suc left) l = rw (lt-ltb _ _ here, some_sort some, sub-one)

        pub scan_out : (refusal : Refusal) → analysis_of file 16 at ≡ Err refusal → Scan file answer at → answer ≡ Err refusal
        scan_out refusal q s = sym s.gives ∙ analysed_here s.left s.enough ∙ rw q

        pub scan_next : (i : Interval) (end : ℕ) → analysis_of file 16 at ≡ Ok (within i end) → Scan file answer at → Scan file answer end
        scan_next i end q s =
            let a = analysis_ahead file 16 at i end q in
            let l = s.enough in
            record { left = s.left - 1; enough = omega arith; gives = sym (analysed_here s.left l ∙ rw q) ∙ s.gives }

  pub scan_head : (kind at : ℕ) → (signature_of kind).sort ≡ None → kind_is file kind at ≡ true → Scan file answer at → Scan file answer (at + 1)
  scan_head kind at u k s =
      let b = kind_is_lem file kind at k in
      scan_skip at b.0 (rw b.1 u) s

-- where the scan comes to an expression, it passes it or refuses it
pub data Tried (file : List ℕ) (answer : Walked) (at end : ℕ) : Type 0 where
  passed : (i : Interval) → analysis_of file 16 at ≡ Ok (within i end) → Scan file answer end → Tried file answer at end
  refused : (refusal : Refusal) → analysis_of file 16 at ≡ Err refusal → answer ≡ Err refusal → Tried file answer at end

module _ (file : List ℕ) (answer : Walked) (vars : ℕ) (want : Sort) (at end : ℕ) (w : walk_of file vars 16 want at ≡ Ok end)
    (s : Scan file answer at) where
  here : at < length file / 8
  here = (walk_opens file vars 15 want at end w).here

  sorted : (signature_at file at).sort ≡ None → ⊥
  sorted = has_sort (walk_opens file vars 15 want at end w).fit

  tried_by : (a : Result Analysis Refusal) → analysis_of file 16 at ≡ a → Tried file answer at end
  tried_by (Ok a) is =
      let passes = ends_at is (analysis_walk file vars 16 want at end a.interval a.end w is) in
      Tried.passed a.interval passes (scan_next file answer at here sorted a.interval end passes s)
  tried_by (Err refusal) is = Tried.refused refusal is (scan_out file answer at here sorted refusal is s)

  pub scan_expression : Tried file answer at end
  scan_expression = tried_by (analysis_of file 16 at) refl
