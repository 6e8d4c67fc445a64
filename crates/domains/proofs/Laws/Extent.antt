-- Laws of extents: a number in bounds lies in its extent.
--     cut_low, cut_high                                      a number that is cut to a range is no worse an end of what lies in the range
--     cut_in_lem, cut_fits                                       it lies in the range, and is as small as the range's ends
--     extent_bounded, combine_bounded, divide_bounded, indicator_bounded     an extent lies in bounds
--     extent_in                                              a number between the ends given lies in it
--     combine_in_extent, divide_in_extent, indicator_in_extent               arithmetic, quotients and remainders, and indicators lie in theirs
--     at_most_says, compare_says                             what the extents' ends say of two numbers
-- Assumes nothing.
use mathlib.Core.Path.{◌≡◌, refl, sym}
use mathlib.Core.Bool.{Bool, true, false, true≢false, not, cond, ◌&&◌}
use Prim.Native.Nat.{ℕ}
use lib.IntN.{ℤ, pos, ◌-ℤ◌}
use lib.Signed.{le_z, lt_z, ◌≤ℤ◌, ≤ℤ_refl}
use mir.Syntax.{Width}
use mir.Val.{SFits}
use Rattle.integers.specs.Tests.{eq_z}
use Rattle.integers.specs.Interval.{bounds}
use Rattle.integers.specs.Inside.{In, Bounded}
use Rattle.truths.proofs.Laws.Truth.{by-test}
use Rattle.integers.proofs.Laws.Parts.{ints, within_fits}
use Rattle.integers.proofs.Laws.Equality.{eq_z_true, eq_z_refl}
use Rattle.intervals.specs.Interval.{interval, combine as combine_of, divide as divide_of}
use Rattle.intervals.proofs.Laws.Combine.{combine_in_lem, divide_by, quotient_ends, remainder_ends, remainder_below}
use Rattle.expressions.specs.Expression.{indicator_of, compare_of}
use Rattle.expressions.proofs.Laws.Connect.{indicator_true, indicator_false, compare_by}
use Rattle.expressions.proofs.Laws.Sound.{indicator_in_lem, constant_in}
use Rattle.domains.specs.declared.seen.Seen.{Seen}
use Rattle.domains.specs.declared.seen.Seen.TheVariants.{Yes, No, Unsure}
use Rattle.domains.specs.declared.extents.Extent.{Extent}
use Rattle.domains.specs.Seen.{Says}
use Rattle.domains.specs.Extent.{cut_of, extent_of, wider_of, combine_in, rises_of, divide_in, indicator_in, all_at_most, all_above, at_most_in, compare_in}
use Rattle.domains.proofs.Laws.Seen.{opposite_says, both_says}

-- ---- numbers cut to a range
module _ (l h a : ℤ) where
  cut_by : (P : ℤ → Type 0) → (lt_z a l ≡ true → P l) → (lt_z h a ≡ true → P h) → (lt_z a l ≡ false → lt_z h a ≡ false → P a) → P (cut_of l h a)
  unfolding cut_of
  cut_by P u v w = by-test (lt_z a l) (λ t. P (cond t l (cond (lt_z h a) h a))) u (λ e. by-test (lt_z h a) (λ t. P (cond t h a)) v (w e))

  pub cut_low : {x : ℤ} → l ≤ℤ x → x ≤ℤ h → a ≤ℤ x → cut_of l h a ≤ℤ x
  cut_low {x} p q r = cut_by (λ c. c ≤ℤ x) (λ e. p) (λ e. omega ints) (λ e f. r)

  pub cut_high : {x : ℤ} → l ≤ℤ x → x ≤ℤ h → x ≤ℤ a → x ≤ℤ cut_of l h a
  cut_high {x} p q r = cut_by (λ c. x ≤ℤ c) (λ e. omega ints) (λ e. q) (λ e f. r)

  pub cut_in_lem : l ≤ℤ h → (l ≤ℤ cut_of l h a) × (cut_of l h a ≤ℤ h)
  cut_in_lem r = cut_by (λ c. (l ≤ℤ c) × (c ≤ℤ h)) (λ e. (≤ℤ_refl l, r)) (λ e. (r, ≤ℤ_refl h)) (λ e f. (omega ints, omega ints))

  pub cut_fits : {w : Width} → SFits w l → SFits w h → SFits w (cut_of l h a)
  cut_fits {w} p q = cut_by (SFits w) (λ e. p) (λ e. q) (λ e f. within_fits p q (omega ints) (omega ints))

cut_bounded : (z : ℤ) → In (cut_of bounds.low bounds.high z) bounds
cut_bounded z = let c = cut_in_lem bounds.low bounds.high z (omega ints) in record { above = c.0; below = c.1 }

module _ (low high : ℤ) (v : ℕ) where
  pub extent_bounded : Bounded (extent_of low high v).span
  unfolding extent_of
  extent_bounded = record { low = cut_bounded low; high = cut_bounded high }

  pub extent_in : {x : ℤ} → In x bounds → In x (interval low high) → In x (extent_of low high v).span
  unfolding extent_of
  extent_in b h = record { above = cut_low _ _ low b.above b.below h.above; below = cut_high _ _ high b.above b.below h.below }

pub combine_bounded : (kind : ℕ) (x y : Extent) → Bounded (combine_in kind x y).span
unfolding combine_in
combine_bounded kind x y = extent_bounded _ _ _

pub divide_bounded : (kind : ℕ) (x : Extent) (d : ℤ) → Bounded (divide_in kind x d).span
unfolding divide_in
divide_bounded kind x d =
    let i = x.span in
    let ends = extent_of (divide_of kind i.low d) (divide_of kind i.high d) x.widest in
    let all = extent_of (pos 0) (d -ℤ pos 1) x.widest in
    by-test (rises_of kind i.low i.high d) (λ t. Bounded (cond t ends all).span) (λ e. extent_bounded _ _ _) (λ e. extent_bounded _ _ _)

pub indicator_bounded : (p : Seen) → Bounded (indicator_in p).span
unfolding indicator_in
indicator_bounded Yes = extent_bounded _ _ _
indicator_bounded No = extent_bounded _ _ _
indicator_bounded (Unsure v) = extent_bounded _ _ _

-- ---- numbers
pub combine_in_extent : (kind : ℕ) (x y : Extent) {a b : ℤ} → In (combine_of kind a b) bounds → In a x.span → In b y.span
    → In (combine_of kind a b) (combine_in kind x y).span
unfolding combine_in
combine_in_extent kind x y s h k = let c = combine_in_lem kind h k in extent_in _ _ _ s (record { above = c.above; below = c.below })

module _ (kind : ℕ) (x : Extent) {a : ℤ} (d : ℤ) (above : pos 1 ≤ℤ d) (h : In a x.span) where
  abbrev low : ℤ
  low = x.span.low

  abbrev high : ℤ
  high = x.span.high

  -- where it rises, and everywhere
  ends_in : rises_of kind low high d ≡ true → In (divide_of kind a d) (interval (divide_of kind low d) (divide_of kind high d))
  unfolding rises_of
  ends_in r =
      divide_by (λ f. In (f a d) (interval (f low d) (f high d))) kind (λ e. quotient_ends h d above)
      (λ e. remainder_ends h d above (eq_z_true _ _ (rw e at r)))

  below_in : rises_of kind low high d ≡ false → In (divide_of kind a d) (interval (pos 0) (d -ℤ pos 1))
  unfolding rises_of
  below_in r =
      divide_by (λ f. In (f a d) (interval (pos 0) (d -ℤ pos 1))) kind (λ e. absurd (true≢false (rw e at r))) (λ e. remainder_below a d above)

  pub divide_in_extent : In (divide_of kind a d) bounds → In (divide_of kind a d) (divide_in kind x d).span
  unfolding divide_in
  divide_in_extent s =
      let ends = extent_of (divide_of kind low d) (divide_of kind high d) x.widest in
      let all = extent_of (pos 0) (d -ℤ pos 1) x.widest in
      by-test (rises_of kind low high d) (λ t. In (divide_of kind a d) (cond t ends all).span) (λ e. extent_in _ _ _ s (ends_in e))
      (λ e. extent_in _ _ _ s (below_in e))

pub indicator_in_extent : (p : Seen) (a : Bool) → Says p a → In (indicator_of a) bounds → In (indicator_of a) (indicator_in p).span
unfolding Says indicator_in
indicator_in_extent Yes a h s = extent_in _ _ _ s (rw (h, indicator_true) (constant_in _))
indicator_in_extent No a h s = extent_in _ _ _ s (rw (h, indicator_false) (constant_in _))
indicator_in_extent (Unsure v) a h s = extent_in _ _ _ s (indicator_in_lem a)

-- ---- comparisons
pub at_most_says : (x y : Extent) (a b : ℤ) → In a x.span → In b y.span → Says (at_most_in x y) (le_z a b)
unfolding Says at_most_in
at_most_says x y a b h k =
    let i = x.span in
    let j = y.span in
    let u = Unsure (wider_of x y) in
    by-test (all_at_most i j) (λ t. Says (cond t Yes (cond (all_above i j) No u)) (le_z a b)) (λ e. omega ints)
    (λ e. by-test (all_above i j) (λ t. Says (cond t No u) (le_z a b)) (λ e. omega ints) (λ e. tt))

equal_both : (a b : ℤ) → (le_z a b && le_z b a) ≡ eq_z a b
equal_both a b = by-test (eq_z a b) (λ t. (le_z a b && le_z b a) ≡ t)
    (λ e. let f : le_z a b ≡ true = omega (ints, eq_z_true a b e) in let g : le_z b a ≡ true = omega (ints, eq_z_true a b e) in rw (f, g))
    (λ e. by-test (le_z a b) (λ t. (t && le_z b a) ≡ false)
    (λ f. by-test (le_z b a) (λ t. t ≡ false) (λ g. let d : a ≡ b = omega ints in cc (eq_z_refl a)) (λ g. refl)) (λ f. refl))

less_not : (a b : ℤ) → not (le_z b a) ≡ lt_z a b
less_not a b = by-test (le_z b a) (λ t. not t ≡ lt_z a b) (λ e. let f : lt_z a b ≡ false = omega ints in sym f) (λ e. let f : lt_z a b ≡ true = omega ints in sym f)

pub compare_says : (kind : ℕ) (x y : Extent) (a b : ℤ) → In a x.span → In b y.span → Says (compare_in kind x y) (compare_of kind a b)
unfolding compare_in
compare_says kind x y a b h k =
    let m = at_most_says x y a b h k in
    let n = at_most_says y x b a k h in
    compare_by (Says (compare_in kind x y)) kind a b (λ e. rw e (rw (equal_both a b) at (both_says _ _ _ _ m n)))
    (λ e f. rw (e, f) (rw (less_not a b) at (opposite_says _ _ n))) (λ e f. rw (e, f) m)
