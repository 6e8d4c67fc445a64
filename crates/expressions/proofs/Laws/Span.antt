-- Laws of the table of how many records each expression has.
--     zeros_behind     an entry beyond a table is zero, so zeros behind it change none
--     spans_entry      each entry is right, and there are as many records
--     spans_right      the table of a file is right wherever an expression begins
--     spans_part       the table of a part's rest is the rest of the table
--     spans_from_lem       the same of a part that begins at a record of the table's file
-- Assumes nothing.
use mathlib.Core.Path.{◌≡◌, refl}
use mathlib.Core.List.{List, [], ◌∷◌, ◌++◌}
use Prim.Native.Nat.{ℕ, zero, suc, ◌+◌, ◌-◌, ◌/◌, ◌≤◌}
use native.Mathlib.Nat.{add-zero, zero-add}
use native.Mathlib.Omega.{arith}
use lib.IntN.{ℤ}
use lib.ListN.{length, get_or, drop, replicate, length-drop}
use lib.Seq.{get_or-drop, drop-drop}
use Rattle.records.specs.declared.kinds.Sort.{Sort}
use Rattle.records.specs.declared.kinds.Operands.{Operands}
use Rattle.records.specs.declared.kinds.Operands.TheVariants.{Zero, One, Two}
use Rattle.records.specs.Kind.{count, signature_at}
use Rattle.records.specs.Walk.{spans, span}
use Rattle.records.proofs.Laws.Span.{kind_part, spans_none, spans_one, spans_two, span_opens}
use Rattle.expressions.specs.Expression.{part_at, first_operand, second_operand}
use Rattle.expressions.specs.Spans.{span_by, with_span, spans_from, spans_of, Spans}
use Rattle.expressions.specs.Fits.{OperandsFit, Fits}
use Rattle.expressions.proofs.Laws.Expression.{fits_opens, fits_level, fits_here}
use Rattle.expressions.proofs.Laws.Sound.{part_part, first_part, second_part}

-- ---- zeros
pub zeros_behind : (table : List ℕ) (n i : ℕ) → get_or (table ++ replicate n 0) i 0 ≡ get_or table i 0
zeros_behind [] zero i = refl
zeros_behind [] (suc n) zero = refl
zeros_behind [] (suc n) (suc i) = zeros_behind [] n i
zeros_behind (v ∷ table) n zero = refl
zeros_behind (v ∷ table) n (suc i) = zeros_behind table n i

module _ (file : List ℕ) where
  -- v as the entry for record i: the expression that begins there, if one does, has v records, and there are as many
  pub record Entry (i v : ℕ) : Type 0 where
    pub within : i ≤ length file / 8 → i + v ≤ length file / 8
    pub right : (levels : ℕ) (want : Sort) (state : List ℤ) → Fits levels want (part_at file i) state → v ≡ span levels (part_at file i)

  -- ---- one record, by the entries behind it
  module _ (at : ℕ) (rest : List ℕ) (entry : (k : ℕ) → Entry (at + 1 + k) (get_or rest k 0)) where
    first_entry : Entry (at + 1) (get_or rest 0 0)
    first_entry = rw add-zero at (entry 0)

    by_within : (n : ℕ) → at + 1 ≤ length file / 8 → at + span_by n rest ≤ length file / 8
    unfolding span_by
    by_within zero l = l
    by_within (suc zero) l = omega (arith, first_entry.within l)
    by_within (suc (suc n)) l = omega (arith, (entry (get_or rest 0 0)).within (first_entry.within l))

    by_right : (below : ℕ) (state : List ℤ) (operands : Operands) → OperandsFit (λ sort p. Fits below sort p state) below (part_at file at) operands
        → span_by (count operands) rest ≡ spans (span below) (count operands) 1 (part_at file at)
    unfolding OperandsFit first_operand second_operand span_by
    by_right below state Zero h = rw spans_none
    by_right below state (One a) h =
        rw (spans_one, first_part file at) (omega (arith, first_entry.right below a state (rw first_part at h)))
    by_right below state (Two a b) h =
        let r = first_entry.right below a state (rw first_part at h.0) in
        let g = second_part file at below (at + 1 + get_or rest 0 0) (omega arith) in
        let t = (entry (get_or rest 0 0)).right below b state (rw g at h.1) in
        rw (spans_two, g, first_part file at) (omega arith)

    by_entry : at + 1 ≤ length file / 8 → Entry at (span_by (count (signature_at file at).operands) rest)
    by_entry l =
        let operands = (signature_at file at).operands in
        record {
          within = λ m. by_within (count operands) l;
          right =
              λ levels want state h.
              let part = part_at file at in
              let e = fits_level levels want part state h in
              rw (span_opens e part (kind_part file at))
              (by_right (levels - 1) state operands (fits_opens e part state (kind_part file at) want h));
        }

  -- ---- all of them; no expression begins behind the last record
  pub spans_entry : (n at : ℕ) → at + n ≡ length file / 8 → (k : ℕ) → Entry (at + k) (get_or (spans_from file n at) k 0)
  unfolding spans_from with_span
  spans_entry zero at e k =
      record {
        within = λ m. omega arith;
        right = λ levels want state h. absurd (omega (arith, fits_here file (at + k) levels want state h));
      }
  spans_entry (suc n) at e zero = rw add-zero (by_entry at (spans_from file n (at + 1)) (spans_entry n (at + 1) (omega arith)) (omega arith))
  spans_entry (suc n) at e (suc k) = let z : at + suc k ≡ at + 1 + k = omega arith in rw z (spans_entry n (at + 1) (omega arith) k)

  pub spans_right : length file ≤ 32768 → Spans file (spans_of file)
  unfolding spans_of
  spans_right l =
      record {
        enough = l;
        right =
            λ at levels want state h.
            rw (zeros_behind (spans_from file (length file / 8) 0))
            ((rw zero-add at (spans_entry (length file / 8) 0 (zero-add (length file / 8)) at)).right levels want state h);
      }

-- ---- parts
pub spans_part : (part table : List ℕ) (k : ℕ) → Spans part table → Spans (part_at part k) (drop k table)
spans_part part table k s =
    record {
      enough = simp length-drop (omega arith);
      right = λ at levels want state h. rw (part_part, get_or-drop) (s.right (k + at) levels want state (rw part_part at h));
    }

pub spans_from_lem : (part table : List ℕ) (at k : ℕ) → Spans part (drop at table) → Spans (part_at part k) (drop (at + k) table)
spans_from_lem part table at k s = rw drop-drop at (spans_part part (drop at table) k s)
