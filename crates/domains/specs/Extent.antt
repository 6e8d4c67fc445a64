-- What is known of a number on a box of states: the interval that it lies in, within bounds, and a variable to blame for the width.
use Rattle.std.specs.Prelude.{Bool, true, cond, ℕ, eqb, ℤ, pos, ◌-ℤ◌}
use Rattle.std.specs.Int.Signed.{le_z, lt_z}
use Rattle.integers.specs.declared.Interval.{Interval}
use Rattle.integers.specs.Interval.{over_ends, bounds}
use Rattle.integers.specs.Tests.{eq_z}
use Rattle.intervals.specs.Interval.{interval, combine as combine_of, divide as divide_of}
use Rattle.domains.specs.declared.seen.Seen.{Seen}
use Rattle.domains.specs.declared.seen.Seen.TheVariants.{Yes, No, Unsure}
use Rattle.domains.specs.declared.extents.Extent.{Extent}
use Rattle.domains.specs.Seen.{opposite_of, both_of}

-- the number, or the end of the range from l to h that it lies beyond
unfoldable pub cut_of : ℤ → ℤ → ℤ → ℤ
cut_of l h x = cond (lt_z x l) l (cond (lt_z h x) h x)

-- from low to high, as far as that lies in bounds
unfoldable pub extent_of : ℤ → ℤ → ℕ → Extent
extent_of low high widest =
    record {
      span = interval (cut_of bounds.low bounds.high low) (cut_of bounds.low bounds.high high);
      widest = widest;
    }

abbrev pub width_of : Interval → ℤ
width_of i = i.high -ℤ i.low

-- the variable to blame for the wider of two
unfoldable pub wider_of : Extent → Extent → ℕ
wider_of x y = cond (le_z (width_of y.span) (width_of x.span)) x.widest y.widest

-- 12 sum, 13 difference, 14 product
unfoldable pub combine_in : ℕ → Extent → Extent → Extent
combine_in kind x y =
    let k = over_ends (combine_of kind) x.span y.span in
    extent_of k.low k.high (wider_of x y)

-- whether it rises between low and high: a quotient does, a remainder where both have one quotient
unfoldable pub rises_of : ℕ → ℤ → ℤ → ℤ → Bool
rises_of kind low high d = cond (eqb kind 0x18) true (eq_z (divide_of 0x18 low d) (divide_of 0x18 high d))

-- 18 quotient, 19 remainder, by d: between what the two ends give where it rises; any other remainder lies in 0..d - 1
unfoldable pub divide_in : ℕ → Extent → ℤ → Extent
divide_in kind x d =
    let i = x.span in
    cond (rises_of kind i.low i.high d) (extent_of (divide_of kind i.low d) (divide_of kind i.high d) x.widest)
    (extent_of (pos 0) (d -ℤ pos 1) x.widest)

-- 1 where the truth holds, else 0
unfoldable pub indicator_in : Seen → Extent
indicator_in Yes = extent_of (pos 1) (pos 1) 12
indicator_in No = extent_of (pos 0) (pos 0) 12
indicator_in (Unsure v) = extent_of (pos 0) (pos 1) v

-- every number of i is at most, or above, every number of j
abbrev pub all_at_most : Interval → Interval → Bool
all_at_most i j = le_z i.high j.low

abbrev pub all_above : Interval → Interval → Bool
all_above i j = lt_z j.high i.low

unfoldable pub at_most_in : Extent → Extent → Seen
at_most_in x y = cond (all_at_most x.span y.span) Yes (cond (all_above x.span y.span) No (Unsure (wider_of x y)))

-- 27 equal, 28 less, 29 at most
unfoldable pub compare_in : ℕ → Extent → Extent → Seen
compare_in kind x y =
    cond (eqb kind 0x27) (both_of (at_most_in x y) (at_most_in y x))
    (cond (eqb kind 0x28) (opposite_of (at_most_in y x))
    (at_most_in x y))
