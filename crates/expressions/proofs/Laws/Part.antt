-- Parts of a file, lent from a record on, with its table.
--     take_rest                      a part that is lent runs to the end
--     lent, entry                    the expression at a record may be handed on, and the table has an entry for it
--     behind_is, behind_within       the table says where it ends
--     behind_end                     that is where it ends in a readable file
-- Assumes nothing.
use mathlib.Core.Path.{◌≡◌, sym}
use mathlib.Core.List.{List}
use Prim.Native.Nat.{ℕ, ◌+◌, ◌-◌, ◌*◌, ◌≤◌, ◌<◌}
use native.Mathlib.Omega.{arith}
use lib.IntN.{ℤ}
use lib.ListN.{length, get_or, take, drop, length-drop}
use lib.Seq.{take_all}
use Rattle.integers.specs.declared.Interval.{Interval}
use Rattle.records.specs.declared.kinds.Sort.{Sort}
use Rattle.intervals.specs.Expression.{Expression}
use Rattle.intervals.proofs.Laws.Expression.{expression_span}
use Rattle.expressions.specs.Expression.{part_at, behind}
use Rattle.expressions.specs.Spans.{Spans}
use Rattle.expressions.specs.Fits.{Fits}
use Rattle.expressions.proofs.Laws.Expression.{fits_within, fits_here}
use Rattle.expressions.proofs.Laws.Span.{spans_part}

-- `&part[k..]` runs to the part's end
pub take_rest : (k : ℕ) (part : List ℕ) → take (length part - k) (drop k part) ≡ drop k part
take_rest k part = take_all (length part - k) (drop k part) (omega (arith, length-drop k part))

-- ---- the expression at a record of a file
module _ (file table : List ℕ) (s : Spans file table) (want : Sort) (at : ℕ) (state : List ℤ) (h : Fits 16 want (part_at file at) state) where
  -- it may be handed on
  pub lent : {part : List ℕ} → part ≡ part_at file at → Fits 16 want part state × ((8 * at + length part ≤ 32768) × Spans part (drop at table))
  lent e = rw e (h, (omega (arith, s.enough, fits_here file at 16 want state h, length-drop (8 * at) file), spans_part file table at s))

  -- the table has an entry for it
  pub entry : at < 4096
  entry = omega (arith, s.enough, fits_here file at 16 want state h)

  -- the table says where it ends: within the file
  pub behind_is : at + get_or table at 0 ≡ behind file at
  unfolding behind
  behind_is = rw (s.right at 16 want state h)

  pub behind_within : 8 * (at + get_or table at 0) ≤ length file
  behind_within =
      let w = fits_within 16 want (part_at file at) state h in
      omega (arith, s.right at 16 want state h, fits_here file at 16 want state h, length-drop (8 * at) file)

-- ---- of a readable file
pub behind_end : {file : List ℕ} {vars : ℕ} {want : Sort} {at end : ℕ} {i : Interval} → Expression file vars 16 want at end i → behind file at ≡ end
unfolding behind
behind_end {file} {vars} {want} {at} {end} x = sym (expression_span file vars want at end x)
