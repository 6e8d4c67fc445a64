-- Laws of a transition at a state, and of what a step answers.
--     guard_holds_lem                  the guard is the truth behind the transition's record
--     enabled_and, enabled_both    it is enabled where its guard is true and each value that it assigns is in range
--     lowest_is, highest_is        the ends between which its successors lie
--     successors_between, successors_none      where it is enabled they are the states between these ends; else there are none
--     ends_ranges                  there is a state between the ends of a transition that fits
--     successor_member, member_successor       of an enabled transition that fits: a state between the ends is a successor, and each successor is one
--     successor_enabled            a transition that has a successor is enabled
--     successor_state              a successor is a state
--     step_blocked, step_out, step_to     a step says whether the guard is true, and whether the transition is enabled
--     step_unheld                   of a step out of range the guard is true and the transition is not enabled
--     step_idle, step_held         where it has no ends, it is not enabled; where it is not out of range, it is enabled if its guard is true
--     step_ends                    where it is, the ends between which its successors lie
--     step_guard, step_enabled     what an answer says of the guard, and of whether the transition is enabled
--     step_low, step_high          and the ends, the state as it was for both where it is not
-- Assumes nothing.
use mathlib.Core.Path.{◌≡◌, refl, sym, subst}
use mathlib.Core.Bool.{Bool, true, false, cond, ◌&&◌, and-eq-true_iff}
use mathlib.Core.List.{List, []}
use Prim.Native.Nat.{ℕ, ◌+◌, ◌/◌}
use lib.IntN.{ℤ}
use lib.ListN.{length}
use Rattle.truths.specs.Listed.{Member}
use Rattle.truths.specs.Truth.{implies}
use Rattle.truths.proofs.Laws.Truth.{by-test, implies_true, implies_false}
use Rattle.states.specs.State.{Within}
use Rattle.states.specs.Ranges.{Ranges}
use Rattle.states.specs.Number.{states_between}
use Rattle.states.proofs.Laws.State.{ranges_same, within_ends}
use Rattle.states.proofs.Laws.Between.{between_within, within_between}
use Rattle.expressions.specs.Expression.{holds_of, behind}
use Rattle.expressions.proofs.Laws.Expression.{holds_is}
use Rattle.evaluating.specs.declared.Ends.{Ends}
use Rattle.evaluating.specs.declared.Stepped.{Stepped}
use Rattle.evaluating.specs.declared.Stepped.TheVariants.{Blocked, OutOfRange, To}
use Rattle.evaluating.specs.Transition.{update_list, all_in_range, lowest, highest}
use Rattle.evaluating.specs.Step.{guard_of, enabled_of, lowest_of, highest_of, successors_of, ends, step_of, guard_in, enabled_in, ends_in}
use Rattle.evaluating.specs.Fits.{TransitionFits}
use Rattle.evaluating.proofs.Laws.Transition.{lowest_within, highest_within, between_ranges, list_from, list_ordered}

-- ---- the transition
module _ (file : List ℕ) (at : ℕ) (state : List ℤ) where
  pub guard_holds_lem : guard_of file at state ≡ holds_of file (at + 1) state
  unfolding guard_of
  guard_holds_lem = sym (holds_is file (at + 1) state)

  pub lowest_is : lowest_of file at state ≡ lowest (update_list file at state) state
  unfolding lowest_of
  lowest_is = refl

  pub highest_is : highest_of file at state ≡ highest (update_list file at state) state
  unfolding highest_of
  highest_is = refl

  pub ends_ranges : {lows highs : List ℤ} → Within lows highs state → TransitionFits file at state → Ranges (lowest_of file at state) (highest_of file at state)
  ends_ranges w h =
      rw (lowest_is, highest_is, list_from file at state)
      (between_ranges _ (list_ordered file state (length file / 8) (behind file (at + 1)) h.updates) state state (ranges_same w))

module _ (lows highs : List ℤ) (file : List ℕ) (at : ℕ) (state : List ℤ) where
  pub enabled_and : enabled_of lows highs file at state ≡ (guard_of file at state && all_in_range lows highs (update_list file at state))
  unfolding enabled_of
  enabled_and = refl

  pub enabled_both : enabled_of lows highs file at state ≡ true
      → (guard_of file at state ≡ true) × (all_in_range lows highs (update_list file at state) ≡ true)
  enabled_both e = (and-eq-true_iff (guard_of file at state) (all_in_range lows highs (update_list file at state))).0 (rw enabled_and at e)

  pub successors_between : enabled_of lows highs file at state ≡ true
      → successors_of lows highs file at state ≡ states_between (lowest_of file at state) (highest_of file at state)
  unfolding successors_of
  successors_between e = rw e

  pub successors_none : enabled_of lows highs file at state ≡ false → successors_of lows highs file at state ≡ []
  unfolding successors_of
  successors_none e = rw e

  pub successor_enabled : (next : List ℤ) → Member next (successors_of lows highs file at state) → enabled_of lows highs file at state ≡ true
  successor_enabled next m =
      by-test (enabled_of lows highs file at state) (λ b. enabled_of lows highs file at state ≡ true) (λ e. e)
      (λ e. absurd (subst (λ (l : List (List ℤ)). Member next l) (successors_none e) m))

  pub successor_member : enabled_of lows highs file at state ≡ true → {next : List ℤ} → Within (lowest_of file at state) (highest_of file at state) next
      → Member next (successors_of lows highs file at state)
  successor_member e w = rw (successors_between e) (within_between w)

  -- the ends are states
  module _ (e : enabled_of lows highs file at state ≡ true) (w : Within lows highs state) where
    pub low_state : Within lows highs (lowest_of file at state)
    low_state = rw lowest_is (lowest_within lows highs (update_list file at state) state w (enabled_both e).1)

    pub high_state : Within lows highs (highest_of file at state)
    high_state = rw highest_is (highest_within lows highs (update_list file at state) state w (enabled_both e).1)

    pub between_state : {next : List ℤ} → Within (lowest_of file at state) (highest_of file at state) next → Within lows highs next
    between_state b = within_ends low_state high_state b

  module _ (w : Within lows highs state) (h : TransitionFits file at state) where
    pub member_successor : (next : List ℤ) → Member next (successors_of lows highs file at state)
        → Within (lowest_of file at state) (highest_of file at state) next
    member_successor next m =
        between_within (ends_ranges file at state w h)
        (subst (λ (l : List (List ℤ)). Member next l) (successors_between (successor_enabled next m)) m)

    pub successor_state : (next : List ℤ) → Member next (successors_of lows highs file at state) → Within lows highs next
    successor_state next m = between_state (successor_enabled next m) w (member_successor next m)

-- ---- the step
module _ (lows highs : List ℤ) (file : List ℕ) (at : ℕ) (state : List ℤ) where
  -- P of a step is so where it is of each answer, where the code gives it
  step_by : (P : Stepped → Type 0) → (guard_of file at state ≡ false → P Blocked)
      → (guard_of file at state ≡ true → all_in_range lows highs (update_list file at state) ≡ false → P OutOfRange)
      → (enabled_of lows highs file at state ≡ true → P (To (ends (lowest_of file at state) (highest_of file at state))))
      → P (step_of lows highs file at state)
  unfolding step_of
  step_by P off out on =
      let g = guard_of file at state in
      let r = all_in_range lows highs (update_list file at state) in
      let t = To (ends (lowest_of file at state) (highest_of file at state)) in
      by-test g (λ b. P (cond b (cond r t OutOfRange) Blocked))
      (λ e. by-test r (λ b. P (cond b t OutOfRange)) (λ f. on (rw (enabled_and lows highs file at state) ((and-eq-true_iff g r).1 (e, f)))) (out e))
      off

  -- the guard and whether it is enabled
  abbrev Said : Bool → Bool → Type 0
  Said g e = (guard_of file at state ≡ g) × (enabled_of lows highs file at state ≡ e)

  pub step_blocked : Blocked ≡ step_of lows highs file at state → Said false false
  unfolding enabled_of
  step_blocked is = step_by (λ s. Blocked ≡ s → Said false false) (λ e d. (e, rw e)) (λ e f d. cc) (λ e d. cc) is

  pub step_out : OutOfRange ≡ step_of lows highs file at state → Said true false
  unfolding enabled_of
  step_out is = step_by (λ s. OutOfRange ≡ s → Said true false) (λ e d. cc) (λ e f d. (e, rw (e, f))) (λ e d. cc) is

  pub step_guard : guard_in (step_of lows highs file at state) ≡ guard_of file at state
  unfolding guard_in
  step_guard = step_by (λ s. guard_in s ≡ guard_of file at state) (λ e. sym e) (λ e f. sym e) (λ e. sym (enabled_both lows highs file at state e).0)

  pub step_enabled : enabled_in (step_of lows highs file at state) ≡ enabled_of lows highs file at state
  unfolding enabled_in enabled_of
  step_enabled = step_by (λ s. enabled_in s ≡ enabled_of lows highs file at state) (λ e. rw e) (λ e f. rw (e, f)) (λ e. sym e)

  pub step_low : (ends_in (step_of lows highs file at state) state).low ≡ cond (enabled_of lows highs file at state) (lowest_of file at state) state
  unfolding ends_in enabled_of
  step_low =
      step_by (λ s. (ends_in s state).low ≡ cond (enabled_of lows highs file at state) (lowest_of file at state) state) (λ e. rw e) (λ e f. rw (e, f))
      (λ e. rw e)

  pub step_high : (ends_in (step_of lows highs file at state) state).high ≡ cond (enabled_of lows highs file at state) (highest_of file at state) state
  unfolding ends_in enabled_of
  step_high =
      step_by (λ s. (ends_in s state).high ≡ cond (enabled_of lows highs file at state) (highest_of file at state) state) (λ e. rw e) (λ e f. rw (e, f))
      (λ e. rw e)

  -- of one out of range
  pub step_unheld : OutOfRange ≡ step_of lows highs file at state → implies (guard_of file at state) (enabled_of lows highs file at state) ≡ false
  step_unheld is = rw ((step_out is).0, (step_out is).1) (implies_true false)

  -- of any step without ends, and of any that is not out of range
  module _ {s : Stepped} (is : s ≡ step_of lows highs file at state) where
    pub step_idle : ((x : Ends) → s ≡ To x → ⊥) → enabled_of lows highs file at state ≡ false
    unfolding enabled_of
    step_idle h = step_by (λ r. s ≡ r → enabled_of lows highs file at state ≡ false) (λ e d. rw e) (λ e f d. rw (e, f)) (λ e d. absurd (h _ d)) is

    pub step_held : (s ≡ OutOfRange → ⊥) → implies (guard_of file at state) (enabled_of lows highs file at state) ≡ true
    step_held h =
        step_by (λ r. s ≡ r → implies (guard_of file at state) (enabled_of lows highs file at state) ≡ true) (λ e d. rw e (implies_false _))
        (λ e f d. absurd (h d)) (λ e d. rw ((enabled_both lows highs file at state e).0, e) (implies_true true)) is

  module _ {x : Ends} (is : To x ≡ step_of lows highs file at state) where
    pub step_to : Said true true
    step_to = step_by (λ s. To x ≡ s → Said true true) (λ e d. cc) (λ e f d. cc) (λ e d. ((enabled_both lows highs file at state e).0, e)) is

    pub step_ends : x ≡ ends (lowest_of file at state) (highest_of file at state)
    step_ends = step_by (λ s. To x ≡ s → x ≡ ends (lowest_of file at state) (highest_of file at state)) (λ e d. cc) (λ e f d. cc) (λ e d. cc) is
