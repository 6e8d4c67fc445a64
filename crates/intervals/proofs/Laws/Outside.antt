-- What goes out of bounds, and where.
--     out_opens             an expression that goes out: its own record does, once its operands are judged, or an operand
--     out_place             the refusal is 8, and the record that goes out is one of the file, or the record count
--     refused_intervals     so it is with the scan
-- Assumes nothing.
use mathlib.Core.Path.{◌≡◌, refl, sym, subst, ◌∙◌}
use mathlib.Core.Logic.{◌⊎◌, inl, inr}
use mathlib.Core.Bool.{Bool, true, false, cond, false≢true}
use mathlib.Core.List.{List}
use Prim.Native.Nat.{ℕ, zero, suc, ◌+◌, ◌/◌, ◌<◌, ◌≤◌}
use native.Mathlib.Omega.{arith}
use borrow.Author.Tests.{ltb-true, lt-ltb}
use lib.ListN.{length}
use lib.Dec.{ltb, eqb}
use Rattle.std.specs.declared.result.Result.{Result}
use Rattle.std.specs.declared.result.Result.TheVariants.{Ok, Err}
use Rattle.shapes.specs.declared.Refusal.{Refusal}
use Rattle.shapes.specs.Refusal.{refused_number, refused_place, and_then}
use Rattle.integers.specs.declared.Interval.{Interval}
use Rattle.integers.specs.Interval.{in_bounds}
use Rattle.integers.proofs.Laws.Parts.{ints}
use Rattle.integers.proofs.Laws.Interval.{bounded_test}
use Rattle.records.specs.Record.{kind_at}
use Rattle.records.specs.declared.kinds.Sort.{Sort}
use Rattle.records.specs.declared.kinds.Operands.{Operands}
use Rattle.records.specs.declared.kinds.Operands.TheVariants.{Zero, One, Two}
use Rattle.records.specs.Kind.{signature_at}
use Rattle.std.specs.Option.{is_none}
use Rattle.records.proofs.Laws.Walk.{First}
use Rattle.intervals.specs.declared.Analysis.{Analysis}
use Rattle.intervals.specs.Interval.{within, unit, leaf_of, join_of, own_of, by_operands, analysis_of, analysed_from, intervals_of}
use Rattle.intervals.proofs.Laws.Interval.{analysis_within}

-- what goes out: the record itself, or an operand, one level further in
pub data OutFrom (file : List ℕ) (levels at : ℕ) (refusal : Refusal) : Type 0 where
  leaf : (signature_at file at).operands ≡ Zero → Refusal.Interval at ≡ refusal → in_bounds (leaf_of file at) ≡ false → OutFrom file levels at refusal
  one : {a : Sort} → (signature_at file at).operands ≡ One a → analysis_of file levels (at + 1) ≡ Err refusal → OutFrom file levels at refusal
  left : {a b : Sort} → (signature_at file at).operands ≡ Two a b → analysis_of file levels (at + 1) ≡ Err refusal → OutFrom file levels at refusal
  right : {a b : Sort} {mid : ℕ} {j : Interval} → (signature_at file at).operands ≡ Two a b → analysis_of file levels (at + 1) ≡ Ok (within j mid)
      → analysis_of file levels mid ≡ Err refusal → OutFrom file levels at refusal
  join : {a b : Sort} {mid end : ℕ} {j k : Interval} → (signature_at file at).operands ≡ Two a b → Refusal.Interval at ≡ refusal
      → analysis_of file levels (at + 1) ≡ Ok (within j mid) → analysis_of file levels mid ≡ Ok (within k end)
      → in_bounds (join_of (kind_at file at) j k) ≡ false → OutFrom file levels at refusal

-- an indicator's interval is in bounds
unit_inside : in_bounds unit ≡ true
unit_inside = bounded_test (record { low = record { above = omega ints; below = omega ints }; high = record { above = omega ints; below = omega ints } })

-- a refusal is the part's, or of what follows
then_refused : {A B : Type 0} {refusal : Refusal} (part : Result A Refusal) {next : A → Result B Refusal} → and_then part next ≡ Err refusal
    → (part ≡ Err refusal) ⊎ First part next (Err refusal)
then_refused (Ok x) e = inr (record { mid = x; first = refl; rest = e })
then_refused (Err r) e = inl cc

module _ (file : List ℕ) (refusal : Refusal) where
  own_out : (i : Interval) (end at : ℕ) → own_of i end at ≡ Err refusal → (Refusal.Interval at ≡ refusal) × (in_bounds i ≡ false)
  unfolding own_of
  own_out i end at q = by_bounds (in_bounds i) refl q
    where
      by_bounds : (b : Bool) → in_bounds i ≡ b → cond b (Ok (within i end)) (Err (Refusal.Interval at)) ≡ Err refusal
          → (Refusal.Interval at ≡ refusal) × (in_bounds i ≡ false)
      by_bounds true t e = let z : ◌≡◌ {A = ℕ} 0 1 = cc in absurd (omega arith)
      by_bounds false t e = (cc, t)

  module _ (levels at : ℕ) where
    abbrev operands : Operands
    operands = (signature_at file at).operands

    abbrev operand : ℕ → Result Analysis Refusal
    operand = analysis_of file levels

    -- behind a first operand i
    abbrev joined : Analysis → Analysis → Result Analysis Refusal
    joined i k = own_of (join_of (kind_at file at) i.interval k.interval) k.end at

    one_out : {a : Sort} → operands ≡ One a → (operand (at + 1) ≡ Err refusal) ⊎ First (operand (at + 1)) (λ i. own_of unit i.end at) (Err refusal)
        → OutFrom file levels at refusal
    one_out n (inl e) = one n e
    one_out n (inr f) = absurd (false≢true (sym (own_out unit f.mid.end at f.rest).1 ∙ unit_inside))

    right_out : {a b : Sort} → operands ≡ Two a b → (i : Analysis) → operand (at + 1) ≡ Ok i
        → (operand i.end ≡ Err refusal) ⊎ First (operand i.end) (joined i) (Err refusal) → OutFrom file levels at refusal
    right_out n i l (inl e) = right n l e
    right_out n i l (inr f) =
        let o = own_out (join_of (kind_at file at) i.interval f.mid.interval) f.mid.end at f.rest in
        join n o.0 l f.first o.1

    two_out : {a b : Sort} → operands ≡ Two a b
        → (operand (at + 1) ≡ Err refusal) ⊎ First (operand (at + 1)) (λ i. and_then (operand i.end) (joined i)) (Err refusal)
        → OutFrom file levels at refusal
    two_out n (inl e) = left n e
    two_out n (inr f) = right_out n f.mid f.first (then_refused (operand f.mid.end) f.rest)

    by_out : (ops : Operands) → operands ≡ ops → by_operands file at operand ops ≡ Err refusal → OutFrom file levels at refusal
    unfolding by_operands
    by_out Zero n q = let o = own_out (leaf_of file at) (at + 1) at q in leaf n o.0 o.1
    by_out (One a) n q = one_out n (then_refused (operand (at + 1)) q)
    by_out (Two a b) n q = two_out n (then_refused (operand (at + 1)) q)

    pub out_opens : at < length file / 8 → analysis_of file (suc levels) at ≡ Err refusal → OutFrom file levels at refusal
    unfolding analysis_of
    out_opens here q = by_out operands refl (simp (lt-ltb _ _ here) at q)

  -- ---- where
  abbrev Right : Type 0
  Right = (refused_number refusal ≡ 8) × (refused_place refusal ≤ length file / 8)

  own_place : {at : ℕ} → at ≤ length file / 8 → Refusal.Interval at ≡ refusal → Right
  own_place l e = subst (λ (r : Refusal). (refused_number r ≡ 8) × (refused_place r ≤ length file / 8)) e (refl, l)

  abbrev PlaceWithin : ℕ → Type 0
  PlaceWithin levels = (at : ℕ) → at ≤ length file / 8 → analysis_of file levels at ≡ Err refusal → Right

  from_place : (levels at : ℕ) → PlaceWithin levels → at < length file / 8 → OutFrom file levels at refusal → Right
  from_place levels at operand l (leaf n e b) = own_place (omega arith) e
  from_place levels at operand l (one n q) = operand (at + 1) (omega arith) q
  from_place levels at operand l (left n q) = operand (at + 1) (omega arith) q
  from_place levels at operand l (right {a} {b} {mid} {j} n p q) = operand mid (analysis_within file levels (at + 1) mid j p) q
  from_place levels at operand l (join n e p q b) = own_place (omega arith) e

  by_place : (levels at : ℕ) → at ≤ length file / 8 → (at < length file / 8 → Right) → (b : Bool) → ltb at (length file / 8) ≡ b
      → cond b (by_operands file at (analysis_of file levels) (signature_at file at).operands) (Err (Refusal.Interval at)) ≡ Err refusal → Right
  by_place levels at l inside true b e = inside (ltb-true _ _ b)
  by_place levels at l inside false b e = own_place l cc

  pub out_place : (levels : ℕ) → PlaceWithin levels
  unfolding analysis_of
  out_place zero at l q = own_place l cc
  out_place (suc levels) at l q = by_place levels at l (λ here. from_place levels at (out_place levels) here (out_opens levels at here q)) _ refl q

  -- ---- the scan
  refused_by : (n at : ℕ) → at ≤ length file / 8
      → ((x : ℕ) → x ≤ length file / 8 → analysed_from file n x ≡ Err refusal → Right)
      → (here skip : Bool) (a : Result Analysis Refusal) → ltb at (length file / 8) ≡ here → analysis_of file 16 at ≡ a
      → cond here (cond skip (analysed_from file n (at + 1)) (and_then a λ i. analysed_from file n i.end)) (Ok at) ≡ Err refusal → Right
  refused_by n at l later true true a here is e = let z = ltb-true at (length file / 8) here in later (at + 1) (omega arith) e
  refused_by n at l later true false (Ok i) here is e = later i.end (analysis_within file 16 at i.end i.interval is) e
  refused_by n at l later true false (Err r) here is e = out_place 16 at l (is ∙ cc)
  refused_by n at l later false skip a here is e = let z : ◌≡◌ {A = ℕ} 0 1 = cc in absurd (omega arith)

  refused_from : (n at : ℕ) → at ≤ length file / 8 → analysed_from file n at ≡ Err refusal → Right
  unfolding analysed_from
  refused_from zero at l e = let z : ◌≡◌ {A = ℕ} 0 1 = cc in absurd (omega arith)
  refused_from (suc n) at l e =
      refused_by n at l (refused_from n) (ltb at (length file / 8)) (is_none (signature_at file at).sort) (analysis_of file 16 at) refl refl e

  pub refused_intervals : intervals_of file ≡ Err refusal → Right
  unfolding intervals_of
  refused_intervals = refused_from (length file / 8) 0 (omega arith)
