-- The table of lengths as it is filled, from the last record back: from record `at` on it is the definition's. Assumes nothing.
use mathlib.Core.Path.{◌≡◌, refl, sym, ◌∙◌}
use mathlib.Core.List.{List, ◌++◌}
use Prim.Native.Nat.{ℕ, zero, suc, ◌+◌, ◌-◌, ◌/◌, ◌<◌, ◌≤◌}
use native.Mathlib.Nat.{add-zero, sub-zero, zero-sub, suc-sub-suc}
use native.Mathlib.Numerals.{add-one}
use native.Mathlib.Omega.{arith}
use lib.ListN.{length, get_or, drop, set, replicate, length-set, length-replicate}
use lib.Seq.{drop-cons, get_or-drop, get_or-set_same, drop-set-lt}
use Rattle.records.specs.declared.kinds.Signature.{Signature}
use Rattle.records.specs.declared.kinds.Operands.{Operands}
use Rattle.records.specs.declared.kinds.Operands.TheVariants.{Zero, One, Two}
use Rattle.records.specs.Kind.{count, signature_at}
use Rattle.expressions.specs.Spans.{span_by, with_span, spans_from, spans_of}
use Rattle.expressions.proofs.Laws.Span.{zeros_behind, spans_entry}

pub record SpansFilled (file table : List ℕ) (at : ℕ) : Type 0 where
  pub size : length table ≡ 4096
  pub most : at ≤ length file / 8
  pub from : drop at table ≡ spans_from file (length file / 8 - at) at ++ replicate (4096 - length file / 8) 0

-- ---- one record
-- the record behind n operands, the first of which begins at a
unfoldable pub past : List ℕ → ℕ → ℕ → ℕ
past table a zero = a
past table a (suc n) = past table a n + get_or table (past table a n) 0

pub past_none : (table : List ℕ) (a : ℕ) → a ≡ past table a 0
unfolding past
past_none table a = refl

pub past_more : (table : List ℕ) (a n : ℕ) {b : ℕ} → b ≡ past table a n → b + get_or table b 0 ≡ past table a (n + 1)
unfolding past
past_more table a n e = rw (add-one, e)

-- at the record `at`, with the table filled behind it
module _ {file table : List ℕ} (at : ℕ) (f : SpansFilled file table (at + 1)) where
  abbrev rest : List ℕ
  rest = spans_from file (length file / 8 - (at + 1)) (at + 1)

  behind : (k : ℕ) → get_or table (at + 1 + k) 0 ≡ get_or rest k 0
  behind k = sym (get_or-drop (at + 1) table k 0) ∙ rw f.from (zeros_behind rest (4096 - length file / 8) k)

  -- an entry leads no further than behind the last record
  entry_within : (i : ℕ) → at + 1 ≤ i → i ≤ length file / 8 → i + get_or table i 0 ≤ length file / 8
  entry_within i l h =
      let k = i - (at + 1) in
      let e : at + 1 + k ≡ i = omega arith in
      let w = (spans_entry file (length file / 8 - (at + 1)) (at + 1) (omega (arith, f.most)) k).within (omega arith) in
      omega (arith, rw e at (behind k))

  pub past_within : (n : ℕ) → (at + 1 ≤ past table (at + 1) n) × (past table (at + 1) n ≤ length file / 8)
  unfolding past
  past_within zero = (omega arith, f.most)
  past_within (suc n) =
      let w = past_within n in
      let e = entry_within (past table (at + 1) n) w.0 w.1 in
      (omega arith, omega arith)

  past_is : (operands : Operands) → past table (at + 1) (count operands) ≡ at + span_by (count operands) rest
  unfolding past span_by
  past_is Zero = refl
  past_is (One a) = omega (arith, rw add-zero at (behind 0))
  past_is (Two a b) =
      let m : at + 1 + get_or table (at + 1) 0 ≡ at + 1 + get_or rest 0 0 = omega (arith, rw add-zero at (behind 0)) in
      rw m (omega (arith, behind (get_or rest 0 0)))

  pub filled_more : at < 4096 → {s : Signature} → s ≡ signature_at file at → {n end : ℕ} → n ≡ count s.operands → end ≡ past table (at + 1) n
      → SpansFilled file (set table at (end - at)) at
  unfolding spans_from with_span
  filled_more l {s} is {n} {end} i p =
      let v = end - at in
      let q = past_is (signature_at file at).operands in
      let e : v ≡ span_by (count (signature_at file at).operands) rest = omega (arith, rw (i, is) at p) in
      let z : length file / 8 - at ≡ suc (length file / 8 - (at + 1)) = omega (arith, f.most) in
      record {
        size = length-set table at v ∙ f.size;
        most = omega (arith, f.most);
        from =
            rw (
              z,
              drop-cons (set table at v) at 0 (omega (arith, length-set table at v, f.size)),
              get_or-set_same table at v 0 (omega (arith, f.size)),
              drop-set-lt (suc at) table at v (omega arith),
              ← add-one at,
              f.from,
              e,
            );
      }

-- ---- the loop
module _ (file : List ℕ) where
  pub filled_begin : SpansFilled file (replicate 4096 0) (length file / 8)
  unfolding spans_from
  filled_begin =
      let z : length file / 8 - length file / 8 ≡ 0 = omega arith in
      record { size = length-replicate {A = ℕ} 4096 0; most = omega arith; from = rw z (zeros_left 4096 (length file / 8)) }
    where
      zeros_left : (n k : ℕ) → drop {A = ℕ} k (replicate n 0) ≡ replicate (n - k) 0
      zeros_left n zero = rw sub-zero
      zeros_left zero (suc k) = rw zero-sub
      zeros_left (suc n) (suc k) = rw suc-sub-suc (zeros_left n k)

  pub filled_end : {table : List ℕ} {at : ℕ} → at ≤ 0 → SpansFilled file table at → table ≡ spans_of file
  unfolding spans_of
  filled_end {table} {at} l f = let z : at ≡ 0 = omega arith in rw (z, sub-zero) at f.from
