-- How many successors a transition of a readable file has. They are the states between two ends, which begin as the state itself; each update sets one
-- variable more in both, where they are still alike since none is set twice, and so makes of each state between them at most as many as it has values.
--     ends_most                            between the ends of a transition lie at most 4,096 states
--     successors_least, successors_most    it has at least 1 successor where it is enabled, and at most 4,096 in any state (C5.7)
-- Assumes nothing.
use mathlib.Core.Path.{◌≡◌, refl, sym, ap₂}
use mathlib.Core.Bool.{true}
use mathlib.Core.List.{List, [], ◌∷◌}
use Prim.Native.Nat.{ℕ, ◌*◌, ◌<◌, ◌≤◌}
use native.Mathlib.Nat.{mul_assoc, one-mul, mul-le-mul_right}
use native.Mathlib.Omega.{arith}
use lib.IntN.{ℤ, pos}
use lib.ListN.{length, get_or, set}
use lib.Seq.{get_or-set_other}
use Rattle.std.specs.declared.result.Result.TheVariants.{Ok}
use Rattle.truths.proofs.Laws.Truth.{by-test}
use Rattle.shapes.specs.declared.Outline.{Outline}
use Rattle.states.specs.Number.{size_of, count_of}
use Rattle.states.proofs.Laws.Number.{size_self, count_pos, count_self, count_set}
use Rattle.states.proofs.Laws.Between.{between_length}
use Rattle.ranges.specs.State.{State}
use Rattle.reading.specs.Read.{read_of}
use Rattle.reading.specs.Readable.{Update as Read, Updates, Transition}
use Rattle.reading.proofs.Laws.Picks.{size_at_lem, choices, combinations, combinations_most}
use Rattle.reading.proofs.Laws.Readable as readable
use Rattle.evaluating.specs.declared.Update.{Update}
use Rattle.evaluating.specs.Transition.{update_list, updated, lowest, highest}
use Rattle.evaluating.specs.Step.{enabled_of, lowest_of, highest_of, successors_of}
use Rattle.evaluating.proofs.Laws.Transition.{Unset, Once, found_at, found}
use Rattle.evaluating.proofs.Laws.Step.{lowest_is, highest_is, successors_between, successors_none}
use Rattle.evaluating.proofs.Laws.Readable.{updates_all, updates_once}

-- ---- by updates
-- the product of how many values each may give its variable
abbrev sizes : List Update → ℕ
sizes [] = 1
sizes (u ∷ rest) = size_of u.low u.high * sizes rest

-- the ends are alike in each variable that is set
abbrev Alike : List Update → List ℤ → List ℤ → Type 0
Alike [] lows highs = Unit {0}
Alike (u ∷ rest) lows highs = (get_or lows u.variable (pos 0) ≡ get_or highs u.variable (pos 0)) × Alike rest lows highs

alike_self : (list : List Update) (state : List ℤ) → Alike list state state
alike_self [] state = tt
alike_self (u ∷ rest) state = (refl, alike_self rest state)

alike_set : (v : ℕ) (low high : ℤ) (list : List Update) (lows highs : List ℤ) → Unset v list → Alike list lows highs
    → Alike list (set lows v low) (set highs v high)
alike_set v low high [] lows highs n a = tt
alike_set v low high (u ∷ rest) lows highs n a =
    let w = u.variable in
    let other : w ≡ v → ⊥ = λ e. n.0 (sym e) in
    let l = get_or-set_other lows v w low (pos 0) other in
    let h = get_or-set_other highs v w high (pos 0) other in
    (rw (l, h) a.0, alike_set v low high rest lows highs n.1 a.1)

updated_count : (list : List Update) (lows highs : List ℤ) → Once list → Alike list lows highs
    → count_of (lowest list lows) (highest list highs) ≤ count_of lows highs * sizes list
unfolding updated
updated_count [] lows highs o a = omega arith
updated_count (u ∷ rest) lows highs o a =
    let v = u.variable in
    let l = set lows v u.low in
    let h = set highs v u.high in
    let first = mul-le-mul_right (sizes rest) (count_set u.low u.high v lows highs a.0) in
    let others = updated_count rest l h o.1 (alike_set v u.low u.high rest lows highs o.0 a.1) in
    omega (arith, first, others, mul_assoc (count_of lows highs) (size_of u.low u.high) (sizes rest))

-- those that reading found
module _ {file : List ℕ} {vars : ℕ} (state : List ℤ) where
  found_choices : {at end : ℕ} (x : Read file vars at end) → size_of (found_at x state).low (found_at x state).high ≡ choices x
  found_choices (Read.assigns k x) = size_self _
  found_choices {at} (Read.picks k o l h) = sym (size_at_lem file at)

  found_sizes : {end at : ℕ} {vs : List ℕ} (h : Updates file vars end at vs) → sizes (found h state) ≡ combinations h
  found_sizes (Updates.none e) = refl
  found_sizes (Updates.more e l x rest apart) = ap₂ ◌*◌ (found_choices x) (found_sizes rest)

-- ---- the successors
module _ (file : List ℕ) (o : Outline) (r : read_of file ≡ Ok o) (state : List ℤ) (s : State file o.vars state)
    (t : ℕ) (l : t < o.transitions) where
  abbrev here : Transition file o t
  here = readable.transition file o r t l

  pub ends_most : count_of (lowest_of file here.place state) (highest_of file here.place state) ≤ 4096
  ends_most =
      let list = update_list file here.place state in
      let all = updates_all file o r state s t l in
      let product : sizes list ≡ combinations here.updates = rw all (found_sizes state here.updates) in
      let count = updated_count list state state (updates_once file o r state s t l) (alike_self list state) in
      let z : count_of (lowest list state) (highest list state) ≤ sizes list = rw (count_self state, one-mul) at count in
      rw (lowest_is, highest_is) (omega (arith, combinations_most file o r here))

  module _ (lows highs : List ℤ) where
    pub successors_least : enabled_of lows highs file here.place state ≡ true → 1 ≤ length (successors_of lows highs file here.place state)
    successors_least e = rw (successors_between lows highs file here.place state e, between_length) (count_pos _ _)

    pub successors_most : length (successors_of lows highs file here.place state) ≤ 4096
    successors_most =
        by-test (enabled_of lows highs file here.place state) (λ b. length (successors_of lows highs file here.place state) ≤ 4096)
        (λ e. rw (successors_between lows highs file here.place state e, between_length) ends_most)
        (λ e. rw (successors_none lows highs file here.place state e) (omega arith))
