-- Refusal 8 says what it means: the record at its place has an own interval that goes out of bounds.
--     analysis_out      of an expression that walks to its end
--     intervals_out     of a file that parses (C10.8)
-- Assumes nothing.
use mathlib.Core.Path.{◌≡◌, subst, ◌∙◌}
use mathlib.Core.Logic.{◌⊎◌, inl, inr}
use mathlib.Core.Bool.{true, false}
use mathlib.Core.List.{List}
use Prim.Native.Nat.{ℕ, zero, suc, ◌+◌, ◌/◌}
use native.Mathlib.Omega.{arith}
use lib.ListN.{length}
use Rattle.std.specs.declared.result.Result.TheVariants.{Ok, Err}
use Rattle.shapes.specs.declared.Refusal.{Refusal}
use Rattle.integers.specs.declared.Interval.{Interval}
use Rattle.integers.specs.Interval.{in_bounds}
use Rattle.shapes.specs.declared.Outline.{Outline}
use Rattle.records.specs.Record.{kind_at, kind_is}
use Rattle.std.specs.declared.option.Option.TheVariants.{None}
use Rattle.records.specs.declared.kinds.Sort.{Sort}
use Rattle.records.specs.declared.kinds.Operands.{Operands}
use Rattle.records.specs.declared.kinds.Operands.TheVariants.{Zero, One, Two}
use Rattle.records.specs.Kind.{signature_of, signature_at}
use Rattle.records.specs.Walk.{Walked, operands_of, walk_of}
use Rattle.records.proofs.Laws.Walk.{walk_opens, walk_deepest, operands_one, operands_two}
use Rattle.parsing.proofs.Laws.Through.{at_end}
use Rattle.parsing.proofs.Laws.Outline.{Parses}
use Rattle.intervals.specs.Interval.{leaf_of, join_of, analysis_of, intervals_of}
use Rattle.reading.specs.Readable.{Own, Outside}
use Rattle.intervals.proofs.Laws.Interval.{analysis_walk}
use Rattle.intervals.proofs.Laws.Outside.{OutFrom, out_opens}
use Rattle.intervals.proofs.Laws.Scan.{Scan, Tried, scan_begins, scan_over, scan_head, scan_expression}

module _ (file : List ℕ) (place : ℕ) where
  outside : (at : ℕ) (i : Interval) → at ≡ place → Own file at i → in_bounds i ≡ false → Outside file place
  outside at i e o b = subst (Outside file) e (record { interval = i; own = o; out = b })

  -- what is to be shown of the expressions of a sort
  abbrev RefusedOutside : ℕ → ℕ → Sort → Type 0
  RefusedOutside vars levels want = (at end : ℕ) → walk_of file vars levels want at ≡ Ok end → analysis_of file levels at ≡ Err (Refusal.Interval place) → Outside file place

  module _ (vars levels at end : ℕ) (operand_out : (want : Sort) → RefusedOutside vars levels want) where
    abbrev walk : Sort → ℕ → Walked
    walk = walk_of file vars levels

    from_out : operands_of walk (signature_at file at).operands (at + 1) ≡ Ok end → OutFrom file levels at (Refusal.Interval place) → Outside file place
    from_out w (OutFrom.leaf n e b) = outside at (leaf_of file at) (cc) (Own.leaf n) b
    from_out w (OutFrom.one {a} n q) = operand_out a (at + 1) end (operands_one walk (at + 1) end a (rw n at w)) q
    from_out w (OutFrom.left {a} {b} n q) = let f = operands_two walk (at + 1) end (rw n at w) in operand_out a (at + 1) f.mid f.first q
    from_out w (OutFrom.right {a} {b} {mid} {j} n l q) =
        let f = operands_two walk (at + 1) end (rw n at w) in
        let z = analysis_walk file vars levels a (at + 1) f.mid j mid f.first l in
        operand_out b mid end (rw z f.rest) q
    from_out w (OutFrom.join {j = j} {k} n e l r b) = outside at (join_of (kind_at file at) j k) (cc) (Own.join levels n l r) b

  pub analysis_out : (vars levels : ℕ) (want : Sort) → RefusedOutside vars levels want
  analysis_out vars zero want at end w q = absurd (walk_deepest file vars want at end w)
  analysis_out vars (suc levels) want at end w q =
      let o = walk_opens file vars levels want at end w in
      from_out vars levels at end (analysis_out vars levels) o.operands (out_opens file (Refusal.Interval place) levels at o.here q)

-- ---- a file that parses
-- the scan that refuses is followed from the first record on: where it comes to an expression, that is refused, or the scan goes on behind it
module _ (file : List ℕ) (place : ℕ) where
  -- the refusal was found, or lies from `at` on
  abbrev Ahead : ℕ → Type 0
  Ahead at = Outside file place ⊎ Scan file (Err (Refusal.Interval place)) at

  module _ (vars : ℕ) (want : Sort) (at end : ℕ) (w : walk_of file vars 16 want at ≡ Ok end) where
    tried_ahead : Tried file (Err (Refusal.Interval place)) at end → Ahead end
    tried_ahead (Tried.passed i within rest) = inr rest
    tried_ahead (Tried.refused r out e) = inl (analysis_out file place vars 16 want at end w (out ∙ cc))

    expression_ahead : Ahead at → Ahead end
    expression_ahead (inl o) = inl o
    expression_ahead (inr s) = tried_ahead (scan_expression file (Err (Refusal.Interval place)) vars want at end w s)

  head_ahead : (kind at : ℕ) → (signature_of kind).sort ≡ None → kind_is file kind at ≡ true → Ahead at → Ahead (at + 1)
  head_ahead kind at u k (inl o) = inl o
  head_ahead kind at u k (inr s) = inr (scan_head file (Err (Refusal.Interval place)) kind at u k s)

  -- behind the last record nothing is refused
  ahead_found : Ahead (length file / 8) → Outside file place
  ahead_found (inl o) = o
  ahead_found (inr s) =
      let e = scan_over file (Err (Refusal.Interval place)) (length file / 8) (omega arith) s in
      let z : ◌≡◌ {A = ℕ} 0 1 = cc in
      absurd (omega arith)

  pub intervals_out : (o : Outline) → Parses file o → intervals_of file ≡ Err (Refusal.Interval place) → Outside file place
  intervals_out o p q = ahead_found (at_end file o p Ahead head_ahead (expression_ahead o.vars) (inr (scan_begins file (Err (Refusal.Interval place)) q)))
