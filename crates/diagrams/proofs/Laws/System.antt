-- Laws of the transitions of a file with diagram g.
--     guard_at, values_at, enabled_at, next_at     what a transition does, by where it stands
--     enabled_and             a transition is enabled where its guard is true and each value is in range (C5.2)
--     successor_enabled       one that has a successor is enabled
--     successor_some          and one that is enabled has one
--     successor_state         a successor is a state (C5.4)
--     successors_ascend       they are listed by their numbers, none twice (C5.6)
--     successor_value, successor_rest, successor_any     a successor has values of the updates, and the others as they were; whatever has, is one (C5.3)
-- Assumes nothing.
use mathlib.Core.Path.{◌≡◌, refl, sym, subst, ◌∙◌}
use mathlib.Core.Bool.{true, ◌&&◌}
use mathlib.Core.List.{List}
use Prim.Native.Nat.{ℕ, ◌<◌}
use lib.IntN.{ℤ, pos}
use lib.ListN.{length, get_or}
use lib.Signed.{◌≤ℤ◌}
use Rattle.std.specs.declared.result.Result.TheVariants.{Ok}
use Rattle.truths.specs.Listed.{Member}
use Rattle.truths.proofs.Laws.Truth.{by-test}
use Rattle.states.specs.State.{Within}
use Rattle.states.specs.Number.{number_of}
use Rattle.states.proofs.Laws.State.{ranges_low}
use Rattle.states.proofs.Laws.Between.{Ascending, between_ascends}
use Rattle.evaluating.specs.Transition.{update_list, all_in_range}
use Rattle.evaluating.specs.Step.{guard_of, enabled_of, lowest_of, highest_of, successors_of}
use Rattle.evaluating.specs.Fits.{TransitionFits}
use Rattle.shapes.specs.declared.Outline.{Outline}
use Rattle.reading.specs.Read.{read_of}
use Rattle.reading.proofs.Laws.Readable as readable
use Rattle.evaluating.proofs.Laws.Transition.{SetIn, Unset}
use Rattle.evaluating.proofs.Laws.Readable as evaluable
use Rattle.evaluating.proofs.Laws.Step.{guard_holds_lem, enabled_and as guarded, lowest_is, highest_is, successors_between, successors_none}
use Rattle.evaluating.proofs.Laws.Step.{ends_ranges, between_state, successor_member, member_successor, successor_enabled as has_enabled, successor_state as stays}
use Rattle.diagrams.specs.declared.Diagram.{Diagram}
use Rattle.diagrams.specs.Diagram.{diagram_of, Loaded, State, state_number}
use Rattle.diagrams.proofs.Laws.Diagram.{found_read, promised}
use Rattle.diagrams.specs.System.{step_at, guard_holds, values_fit, is_enabled, next_states}

module _ (file : List ℕ) (g : Diagram) (t : ℕ) (state : List ℤ) where
  pub guard_at : guard_holds file g t state ≡ guard_of file (step_at g t) state
  unfolding guard_holds
  guard_at = sym (guard_holds_lem file (step_at g t) state)

  pub values_at : values_fit file g t state ≡ all_in_range g.low g.high (update_list file (step_at g t) state)
  unfolding values_fit
  values_at = refl

  pub enabled_at : is_enabled file g t state ≡ enabled_of g.low g.high file (step_at g t) state
  unfolding is_enabled values_fit
  enabled_at = rw guard_at (sym (guarded g.low g.high file (step_at g t) state))

  pub next_at : next_states file g t state ≡ successors_of g.low g.high file (step_at g t) state
  unfolding next_states
  next_at =
      by-test (enabled_of g.low g.high file (step_at g t) state)
      (λ b. next_states file g t state ≡ successors_of g.low g.high file (step_at g t) state)
      (λ e. rw (successors_between g.low g.high file (step_at g t) state e, enabled_at, e, lowest_is, highest_is))
      (λ e. rw (successors_none g.low g.high file (step_at g t) state e, enabled_at, e))

  pub enabled_and : is_enabled file g t state ≡ (guard_holds file g t state && values_fit file g t state)
  unfolding is_enabled
  enabled_and = refl

  -- a member of one list is one of the other
  listed : (next : List ℤ) → Member next (next_states file g t state) → Member next (successors_of g.low g.high file (step_at g t) state)
  listed next m = subst (λ (l : List (List ℤ)). Member next l) next_at m

  pub successor_enabled : (next : List ℤ) → Member next (next_states file g t state) → is_enabled file g t state ≡ true
  successor_enabled next m = enabled_at ∙ has_enabled g.low g.high file (step_at g t) state next (listed next m)

-- ---- the successors of a transition of the file
module _ (file : List ℕ) (g : Diagram) (r : Loaded file g) (t : ℕ) (l : t < g.transitions) (state : List ℤ) (w : State g state) where
  fits : TransitionFits file (step_at g t) state
  fits = (promised file g r).step t l state w

  pub successor_state : (next : List ℤ) → Member next (next_states file g t state) → State g next
  successor_state next m = stays g.low g.high file (step_at g t) state w fits next (listed file g t state next m)

  pub successor_some : is_enabled file g t state ≡ true → (next : List ℤ) × Member next (next_states file g t state)
  successor_some e =
      let next = lowest_of file (step_at g t) state in
      let m = successor_member g.low g.high file (step_at g t) state (sym (enabled_at file g t state) ∙ e) (ranges_low (ends_ranges file (step_at g t) state w fits)) in
      (next, subst (λ (l : List (List ℤ)). Member next l) (sym (next_at file g t state)) m)

  pub successors_ascend : Ascending (state_number g) (next_states file g t state)
  unfolding state_number
  successors_ascend =
      rw (next_at file g t state)
      (by-test (enabled_of g.low g.high file (step_at g t) state)
      (λ b. Ascending (number_of g.low g.high) (successors_of g.low g.high file (step_at g t) state))
      (λ e. rw (successors_between g.low g.high file (step_at g t) state e)
      (between_ascends (ends_ranges file (step_at g t) state w fits) (λ s b. between_state g.low g.high file (step_at g t) state e w b)))
      (λ e. rw (successors_none g.low g.high file (step_at g t) state e) tt))

-- what is so of each diagram that reading finds is so of g
by_outline : {file : List ℕ} {g : Diagram} (P : Diagram → Type 0) → Loaded file g → ((o : Outline) → read_of file ≡ Ok o → P (diagram_of file o)) → P g
by_outline {file} P r f = subst P (sym r.is) (f r.outline (found_read file r.outline r.found))

module _ (file : List ℕ) (g : Diagram) (r : Loaded file g) where
  -- what lies between the ends is the successors
  between : (o : Outline) (q : read_of file ≡ Ok o) (t : ℕ) (l : t < o.transitions) (state : List ℤ) (s : State (diagram_of file o) state)
      (next : List ℤ) → Member next (next_states file (diagram_of file o) t state)
      → Within (lowest_of file (readable.transition file o q t l).place state) (highest_of file (readable.transition file o q t l).place state) next
  unfolding diagram_of
  between o q t l state s next m =
      let at = readable.transition_place file o q t l in
      member_successor _ _ file (readable.transition file o q t l).place state s (evaluable.transition_fits file o q state s t l) next
      (rw at at (listed file (diagram_of file o) t state next m))

  abbrev Sets : Diagram → Type 0
  Sets h =
      (t : ℕ) → t < h.transitions → (state : List ℤ) → State h state → (v : ℕ) (x y : ℤ) → SetIn v x y (update_list file (step_at h t) state)
      → (next : List ℤ) → Member next (next_states file h t state) → (x ≤ℤ get_or next v (pos 0)) × (get_or next v (pos 0) ≤ℤ y)

  pub successor_value : Sets g
  unfolding diagram_of
  successor_value =
      by_outline Sets r (λ o q t l state s v x y a next m.
      let at = readable.transition_place file o q t l in
      evaluable.successor_value file o q state s t l v x y (rw at at a) (between o q t l state s next m))

  abbrev Keeps : Diagram → Type 0
  Keeps h =
      (t : ℕ) → t < h.transitions → (state : List ℤ) → State h state → (v : ℕ) → Unset v (update_list file (step_at h t) state)
      → (next : List ℤ) → Member next (next_states file h t state) → get_or next v (pos 0) ≡ get_or state v (pos 0)

  pub successor_rest : Keeps g
  unfolding diagram_of
  successor_rest =
      by_outline Keeps r (λ o q t l state s v u next m.
      let at = readable.transition_place file o q t l in
      evaluable.successor_rest file o q state s t l v (rw at at u) (between o q t l state s next m))

  abbrev Any : Diagram → Type 0
  Any h =
      (t : ℕ) → t < h.transitions → (state : List ℤ) → State h state → is_enabled file h t state ≡ true → (next : List ℤ) → length next ≡ length state
      → ((v : ℕ) (x y : ℤ) → SetIn v x y (update_list file (step_at h t) state) → (x ≤ℤ get_or next v (pos 0)) × (get_or next v (pos 0) ≤ℤ y))
      → ((v : ℕ) → Unset v (update_list file (step_at h t) state) → get_or next v (pos 0) ≡ get_or state v (pos 0)) → Member next (next_states file h t state)

  pub successor_any : Any g
  unfolding diagram_of
  successor_any =
      by_outline Any r (λ o q t l state s e next n set rest.
      let at = readable.transition_place file o q t l in
      rw (next_at file (diagram_of file o) t state, at)
      (successor_member _ _ file (readable.transition file o q t l).place state (rw at at (sym (enabled_at file (diagram_of file o) t state) ∙ e))
      (evaluable.successor_any file o q state s t l next n (rw at at set) (rw at at rest))))
