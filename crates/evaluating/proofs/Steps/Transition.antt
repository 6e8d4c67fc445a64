-- A transition's updates, one after the other. Assumes nothing.
use mathlib.Core.Path.{◌≡◌, refl, sym}
use mathlib.Core.List.{List, []}
use mathlib.Core.Bool.{true, false, cond, ◌&&◌}
use Rattle.std.specs.Prelude.{Option, None, Some}
use Rattle.truths.proofs.Laws.Truth.{by-test}
use Prim.Native.Nat.{ℕ, suc, ◌+◌, ◌/◌, ◌<◌}
use lib.IntN.{ℤ}
use lib.ListN.{length, set}
use Rattle.sections.specs.Section.{is_update}
use Rattle.evaluating.specs.declared.Update.{Update}
use Rattle.evaluating.specs.declared.Ends.{Ends}
use Rattle.evaluating.specs.declared.Stepped.{Stepped}
use Rattle.evaluating.specs.declared.Stepped.TheVariants.{Blocked, OutOfRange, To}
use Rattle.expressions.specs.Expression.{behind}
use Rattle.evaluating.specs.Transition.{update_at, updates_from, in_range_of, all_in_range, updated, lowest, highest, update_list}
use Rattle.evaluating.specs.Step.{guard_of, lowest_of, highest_of, ends, updated_by, step_of}
use Rattle.evaluating.specs.Fits.{UpdatesFit}
use Rattle.evaluating.proofs.Laws.Transition.{list_end, list_none, list_more, fits_more, update_variable}

-- ---- in the loop: what is left to do to the ends gives what all the updates do to `state`
module _ (lows highs : List ℤ) (file : List ℕ) (state : List ℤ) (all : List Update) where
  pub record Left (x : Ends) (at left : ℕ) : Type 0 where
    pub fit : UpdatesFit file left at state
    pub range : all_in_range lows highs (updates_from file left at state) ≡ all_in_range lows highs all
    pub low_end : lowest (updates_from file left at state) x.low ≡ lowest all state
    pub high_end : highest (updates_from file left at state) x.high ≡ highest all state

  module _ {x : Ends} {at left : ℕ} (l : Left x at left) where
    done : updates_from file left at state ≡ [] → Some x ≡ updated_by lows highs all state
    unfolding updated_by all_in_range updated
    done e = rw (← (rw e at l.range), ← (rw e at l.low_end), ← (rw e at l.high_end))

    pub left_none : is_update file at ≡ false → Some x ≡ updated_by lows highs all state
    left_none e = done (list_none file at state left e)

    pub left_end : left ≡ 0 → Some x ≡ updated_by lows highs all state
    left_end e = done (rw (e, list_end))

    module _ (n : ℕ) (is : left ≡ suc n) (e : is_update file at ≡ true) {u : Update} (found : u ≡ update_at file at state) where
      pub left_out : (in_range_of lows highs u.variable u.low && in_range_of lows highs u.variable u.high) ≡ false → None ≡ updated_by lows highs all state
      unfolding all_in_range updated_by
      left_out o = let r : all_in_range lows highs all ≡ false = sym (rw (list_more file at state is e, ← found, o) at l.range) in rw r

      pub left_variable : u.variable < 12
      left_variable = rw (found, update_variable file at state) (fits_more file at state is e l.fit).0.named

      pub left_more : (in_range_of lows highs u.variable u.low && in_range_of lows highs u.variable u.high) ≡ true
          → {y : Ends} → y ≡ ends (set x.low u.variable u.low) (set x.high u.variable u.high) → Left y u.end n
      unfolding all_in_range updated
      left_more i d =
          rw d
          (record {
            fit = rw found (fits_more file at state is e l.fit).1;
            range = rw (list_more file at state is e, ← found, i) at l.range;
            low_end = rw (list_more file at state is e, ← found) at l.low_end;
            high_end = rw (list_more file at state is e, ← found) at l.high_end;
          })

pub left_begins : (lows highs : List ℤ) (file : List ℕ) (state : List ℤ) (n first : ℕ) → UpdatesFit file n first state
    → Left lows highs file state (updates_from file n first state) (ends state state) first n
left_begins lows highs file state n first h = record { fit = h; range = refl; low_end = refl; high_end = refl }

-- ---- the step: the guard, then the updates
module _ (lows highs : List ℤ) (file : List ℕ) (at : ℕ) (state : List ℤ) where
  pub step_off : guard_of file at state ≡ false → Blocked ≡ step_of lows highs file at state
  unfolding step_of
  step_off e = rw e

  -- what the updates' answer makes of the step
  abbrev pub moved : Option Ends → Stepped
  moved None = OutOfRange
  moved (Some x) = To x

  pub step_on : guard_of file at state ≡ true → {a : Option Ends}
      → a ≡ updated_by lows highs (updates_from file (length file / 8) (behind file (at + 1)) state) state
      → moved a ≡ step_of lows highs file at state
  unfolding step_of lowest_of highest_of updated_by update_list
  step_on e is =
      let list = updates_from file (length file / 8) (behind file (at + 1)) state in
      rw (e, is)
      (by-test (all_in_range lows highs list) (λ t. moved (cond t (Some (ends (lowest list state) (highest list state))) None) ≡ cond t (To (ends (lowest list state) (highest list state))) OutOfRange)
      (λ f. refl) (λ f. refl))
