-- Laws of the search of whole boxes: what is skipped holds.
--     decided_each                   a condition that is decided on a box holds at each of its states
--     narrow_before                  and at each state before the one that is narrowed down to, where it does before the box
--     end_before                     from the whole ranges, at each state before
--     skipped                        so it holds at each state that is skipped
-- Assumes nothing.
use mathlib.Core.Path.{◌≡◌, refl, sym, ◌∙◌}
use mathlib.Core.Bool.{true, cond, false≢true}
use mathlib.Core.Logic.{⊎_elim}
use mathlib.Core.List.{List}
use Prim.Native.Nat.{ℕ, zero, suc, ◌<◌, ◌≤◌}
use native.Mathlib.Nat.{le_refl, lt_irrefl}
use native.Mathlib.Omega.{arith}
use borrow.Author.Tests.{leb-true, leb-false}
use lib.Dec.{eqb, leb}
use lib.IntN.{ℤ, pos}
use lib.ListN.{length, get_or}
use lib.Signed.{◌<ℤ◌}
use Rattle.truths.proofs.Laws.Truth.{by-test}
use Rattle.states.specs.Ranges.{Ranges}
use Rattle.states.specs.Number.{count_of, state_of, number_of}
use Rattle.states.proofs.Laws.Number.{number_below, state_within, state_of_number, number_of_state}
use Rattle.states.proofs.Laws.Order.{nothing_before}
use Rattle.boxes.specs.declared.Box.{Box}
use Rattle.boxes.specs.Box.{Inside, Part}
use Rattle.boxes.specs.Half.{wide_of, choice_of, lower_of, upper_of}
use Rattle.boxes.proofs.Laws.Half.{whole, part_inside, part_length, low_inside, single, first_wide_lem, chosen_wide, lower_part, upper_part, in_half}
use Rattle.boxes.proofs.Laws.Order.{Slab, slab_whole, slab_lower, slab_upper, slab_before, lower_begin}
use Rattle.domains.specs.declared.seen.Seen.{Seen}
use Rattle.domains.specs.declared.seen.Seen.TheVariants.{Yes, No, Unsure}
use Rattle.testing.specs.Testing.{passes_in, TestFits}
use Rattle.testing.proofs.Laws.Boxes.{passes_yes}
use Rattle.searching.specs.declared.Search.{Search}
use Rattle.searching.specs.declared.Decided.{Decided}
use Rattle.searching.specs.declared.Skipped.{Skipped}
use Rattle.searching.specs.Search.{halvings, decided, passes_at, halves_of, decided_by, decide_of, narrow_of, skip_to, skip_of}

-- ---- a whole box
module _ (file : List ℕ) (s : Search) (fits : TestFits s.ranges.low s.ranges.high file s.test) (long : length s.ranges.low ≡ 12) where
  -- the condition holds at each state of the box
  abbrev pub Each : Box → Type 0
  Each b = (state : List ℤ) → Inside b state → passes_at file s state ≡ true

  halves_each : (D : Box → ℕ → Decided) (b : Box) (v left : ℕ)
      → ((D (lower_of b v) left).sure ≡ true → Each (lower_of b v)) → ((n : ℕ) → (D (upper_of b v) n).sure ≡ true → Each (upper_of b v))
      → (halves_of D b v left).sure ≡ true → Each b
  unfolding halves_of
  halves_each D b v left low up =
      by-test (D (lower_of b v) left).sure
      (λ t. (D (lower_of b v) left).sure ≡ t → (cond t (D (upper_of b v) (D (lower_of b v) left).left) (D (lower_of b v) left)).sure ≡ true → Each b)
      (λ is e f state w. ⊎_elim (low is state) (up _ f state) (in_half b v w))
      (λ is e f. absurd (false≢true (sym is ∙ f))) refl

  -- the first wide variable is one, where there is one
  wide_there : (b : Box) → Part s.ranges b → wide_of b.low b.high < 12
      → get_or b.low (wide_of b.low b.high) (pos 0) <ℤ get_or b.high (wide_of b.low b.high) (pos 0)
  wide_there b p l = let e = part_length p in first_wide_lem b.low b.high (omega (arith, l, e.0, long)) (omega (arith, l, e.1, long))

  -- by what is seen of the condition on the box, where D decides its halves
  seen_each : (D : Box → ℕ → Decided) → ((half : Box) (n : ℕ) → Part s.ranges half → (D half n).sure ≡ true → Each half)
      → (b : Box) (left : ℕ) → Part s.ranges b → wide_of b.low b.high < 12
      → (seen : Seen) → passes_in s.ranges file s.test b ≡ seen → (decided_by D seen b (wide_of b.low b.high) left).sure ≡ true → Each b
  unfolding decided_by
  seen_each D f b left p l Yes is e = λ state w. passes_yes file s.ranges s.test fits b state w (λ t x. part_inside p x) is
  seen_each D f b left p l No is e = absurd (false≢true e)
  seen_each D f b left p l (Unsure v) is e =
      let c = chosen_wide b v (wide_of b.low b.high) l (wide_there b p l) in
      halves_each D b (choice_of b v (wide_of b.low b.high)) left (f _ left (lower_part p _ c.1)) (λ n. f _ n (upper_part p _ c.1)) e

  pub decided_each : (depth : ℕ) (b : Box) (budget : ℕ) → Part s.ranges b → (decide_of depth file s b budget).sure ≡ true → Each b
  unfolding decide_of
  decided_each zero b budget p = λ e. absurd (false≢true e)
  decided_each (suc depth) b zero p = λ e. absurd (false≢true e)
  decided_each (suc depth) b (suc left) p =
      let D : Box → ℕ → Decided = λ half n. decide_of depth file s half n in
      by-test (leb 12 (wide_of b.low b.high))
      (λ t. (cond t (decided (passes_at file s b.low) left) (decided_by D (passes_in s.ranges file s.test b) b (wide_of b.low b.high) left)).sure ≡
      true
      → Each b)
      (λ is e state w. rw (single p (omega (arith, leb-true 12 (wide_of b.low b.high) is, (part_length p).0, long)) w) e)
      (λ is. seen_each D (λ half n. decided_each depth half n) b left p (leb-false 12 (wide_of b.low b.high) is) _ refl)

  -- ---- the states before
  -- the condition holds at each state with a number below that of this one, which is a state
  pub record Before (end : List ℤ) : Type 0 where
    pub within : Inside s.ranges end
    pub held : (state : List ℤ) → Inside s.ranges state
        → number_of s.ranges.low s.ranges.high state < number_of s.ranges.low s.ranges.high end → passes_at file s state ≡ true

  pub narrow_before : (depth : ℕ) (b : Box) (budget : ℕ) → Part s.ranges b → Slab s.ranges.low s.ranges.high b.low b.high
      → Before b.low → Before (narrow_of depth file s b budget)
  unfolding narrow_of
  narrow_before zero b budget p slab h = h
  narrow_before (suc depth) b budget p slab h =
      let v = wide_of b.low b.high in
      let found = decide_of halvings file s (lower_of b v) budget in
      let up = narrow_of depth file s (upper_of b v) found.left in
      let low = narrow_of depth file s (lower_of b v) found.left in
      by-test (leb 12 v) (λ t. Before (cond t b.low (cond found.sure up low))) (λ is. h)
      (λ is.
      let w = wide_there b p (leb-false 12 v is) in
      let u = upper_part p v w in
      by-test found.sure (λ t. Before (cond t up low))
      (λ sure. narrow_before depth (upper_of b v) found.left u (slab_upper slab)
      (record {
        within = part_inside u (low_inside u);
        held =
            λ state x less. ⊎_elim (h.held state x) (decided_each halvings (lower_of b v) budget (lower_part p v w) sure state) (slab_before slab p w x less);
      }))
      (λ unsure. narrow_before depth (lower_of b v) found.left (lower_part p v w) (slab_lower slab) (rw (lower_begin b) h)))

  -- from the whole ranges
  pub end_before : Ranges s.ranges.low s.ranges.high → (budget : ℕ) → Before (narrow_of halvings file s s.ranges budget)
  end_before r budget =
      narrow_before halvings s.ranges budget (whole r) (slab_whole r)
      (record { within = low_inside (whole r); held = λ t x l. absurd (nothing_before r _ l) })

  -- ---- what is skipped
  -- the condition holds at each state before this one, which has that number; or at all of them
  pub record Passed (states : ℕ) (k : Skipped) : Type 0 where
    pub most : k.number ≤ states
    pub here : k.number < states → k.state ≡ state_of s.ranges.low s.ranges.high k.number
    pub held : (n : ℕ) → n < k.number → passes_at file s (state_of s.ranges.low s.ranges.high n) ≡ true

  module _ (r : Ranges s.ranges.low s.ranges.high) {states : ℕ} (all : states ≡ count_of s.ranges.low s.ranges.high) where
    whole_passed : (budget : ℕ) → (decide_of halvings file s s.ranges budget).sure ≡ true → Passed states (skip_to s.ranges.low states)
    whole_passed budget e =
        record {
          most = le_refl states;
          here = λ l. absurd (lt_irrefl states l);
          held = λ n l. decided_each halvings s.ranges budget (whole r) e _ (state_within r n (omega (arith, l, all)));
        }

    end_passed : {end : List ℤ} → Before end → Passed states (skip_to end (number_of s.ranges.low s.ranges.high end))
    end_passed b =
        let m = number_below b.within in
        record {
          most = omega (arith, m, all);
          here = λ l. sym (state_of_number b.within);
          held = λ n l. b.held _ (state_within r n (omega (arith, l, m))) (rw (number_of_state r n (omega (arith, l, m))) l);
        }

    module _ {from : Skipped} (p : Passed states from) (budget : ℕ) where
      -- further on, or as far as before
      pub skipped : Passed states (skip_of file s states from budget) × (from.number ≤ (skip_of file s states from budget).number)
      unfolding skip_of
      skipped =
          let first = decide_of halvings file s s.ranges budget in
          let end = narrow_of halvings file s s.ranges first.left in
          let number = number_of s.ranges.low s.ranges.high end in
          by-test (eqb budget 0)
          (λ t.
          let k = cond t from (cond first.sure (skip_to s.ranges.low states) (cond (leb number from.number) from (skip_to end number))) in
          Passed states k × (from.number ≤ k.number))
          (λ none. (p, le_refl _))
          (λ some. by-test first.sure
          (λ t.
          let k = cond t (skip_to s.ranges.low states) (cond (leb number from.number) from (skip_to end number)) in
          Passed states k × (from.number ≤ k.number))
          (λ is. (whole_passed budget is, p.most))
          (λ is. by-test (leb number from.number)
          (λ t. let k = cond t from (skip_to end number) in Passed states k × (from.number ≤ k.number))
          (λ le. (p, le_refl _))
          (λ gt. (end_passed (end_before r first.left), omega (arith, leb-false number from.number gt)))))
