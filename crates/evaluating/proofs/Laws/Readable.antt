-- What is known of a readable file and of its states: the page that judging cites. Each law follows from the answer of `read` alone.
--     ranges                                       no range is empty
--     states_within                                there are at least 1 and at most 1,048,576 states (C10.7)
--     numbered, number                             each number below that has a state, and each state such a number: they determine each other (C4.5)
--     state_zero, next                             the first state, and the move forward from any but the last to the one numbered one higher (C4.4, C4.6)
--     start_fits, claimed_fits, assertion_fits     in every state the start, each expression of the property and each node's assertion can be evaluated
--     transition_fits                              so can each transition's guard and updates
--     number_lies                                  and each number in them is worth something in its interval (C3.6)
--     updates_all                                  its updates are all that reading found, each with its variable and its values in the state (C5.1)
--     updates_variables, updates_once              they set the variables that reading lists, none twice (C1.17)
--     successor_value, successor_rest              a successor has values of its updates, and the others as they were
--     successor_any                                and whatever has, is one
-- Assumes nothing.
use mathlib.Core.Path.{◌≡◌, refl, sym, ◌∙◌}
use mathlib.Core.Logic.{⊎_elim}
use mathlib.Core.List.{List}
use mathlib.Core.Bool.{false≢true}
use Prim.Native.Nat.{ℕ, zero, suc, ◌+◌, ◌/◌, ◌<◌, ◌≤◌}
use native.Mathlib.Omega.{arith}
use lib.IntN.{ℤ, pos}
use lib.ListN.{length, get_or}
use Rattle.std.specs.declared.result.Result.TheVariants.{Ok}
use Rattle.integers.specs.declared.Interval.{Interval}
use Rattle.integers.specs.Inside.{In}
use Rattle.shapes.specs.declared.Outline.{Outline}
use lib.Signed.{◌≤ℤ◌, ≤ℤ_refl}
use Rattle.integers.proofs.Laws.Parts.{ints}
use Rattle.records.specs.Record.{field_a, value_b, value_c}
use Rattle.records.specs.declared.kinds.Sort.{Sort}
use Rattle.records.specs.Kind.{number as number_sort, truth as truth_sort}
use Rattle.sections.specs.Section.{expressions_of}
use Rattle.intervals.specs.Interval.{interval}
use Rattle.reading.specs.Read.{read_of}
use Rattle.intervals.specs.Expression.{Expression}
use Rattle.reading.specs.Readable.{Update, Updates, Transition}
use Rattle.reading.proofs.Laws.Readable as readable
use Rattle.expressions.specs.Expression.{part_at, number as worth}
use Rattle.expressions.specs.Fits.{Fits}
use Rattle.states.specs.Ranges.{Ranges}
use Rattle.ranges.specs.Range.{lows_of, highs_of}
use Rattle.ranges.specs.State.{State}
use Rattle.states.specs.Number.{count_of, state_of, number_of}
use Rattle.states.specs.Advance.{advance_of}
use Rattle.evaluating.specs.declared.Update.{Update as Updating}
use Rattle.evaluating.specs.Transition.{update_list}
use Rattle.evaluating.specs.Step.{lowest_of, highest_of}
use Rattle.evaluating.specs.Fits.{UpdateFits, UpdatesFit, TransitionFits}
use Rattle.expressions.proofs.Laws.Sound.{expression_fits, number_in}
use Rattle.expressions.proofs.Laws.Part.{behind_end}
use Rattle.states.specs.State.{Within}
use Rattle.states.proofs.Laws.State.{within_at, at_within, within_length}
use Rattle.ranges.proofs.Laws.Range.{ends_length, ends_at, ranges_file}
use Rattle.states.proofs.Laws.Number.{number_below, state_of_number, number_of_state, state_within, first_state, advance_next}
use Rattle.evaluating.proofs.Laws.Transition.{list_from, variables, Unset, Once, SetIn, updated_value, updated_rest, set_or_not, updated_length}
use Rattle.evaluating.proofs.Laws.Transition.{found, found_is, list_found, found_variables, found_once, found_named}
use Rattle.evaluating.proofs.Laws.Step.{lowest_is, highest_is}

-- ---- a transition's updates
module _ (file : List ℕ) (vars end : ℕ) (state : List ℤ) (most : vars ≤ 12)
    (fits : (at mid : ℕ) (i : Interval) → Expression file vars 16 number_sort at mid i → Fits 16 number_sort (part_at file at) state) where
  update_fits : {at mid : ℕ} → field_a file at < vars → Update file vars at mid → UpdateFits file at state
  update_fits {at} {mid} l (Update.assigns {i = i} k x) =
      record { named = omega arith; value = λ z. fits (at + 1) mid i x; ordered = λ z. absurd (false≢true (sym k ∙ z)) }
  update_fits l (Update.picks k o low high) = record { named = omega arith; value = λ z. absurd (false≢true (sym z ∙ k)); ordered = λ z. o }

  updates_fit : (n at : ℕ) {vs : List ℕ} → Updates file vars end at vs → UpdatesFit file n at state
  unfolding UpdatesFit
  updates_fit zero at h = tt
  updates_fit (suc n) at (Updates.none e) = λ k. absurd (false≢true (sym e ∙ k))
  updates_fit (suc n) at (Updates.more {mid = mid} e l x rest apart) =
      λ k. let f = found_is file vars end state x in (update_fits l x, rw (f.0, f.1) (updates_fit n mid rest))

module _ (file : List ℕ) (o : Outline) (r : read_of file ≡ Ok o) where
  most : o.vars ≤ 12
  most = (readable.variables_within file o r).1

  abbrev lows : List ℤ
  lows = lows_of file o.vars

  abbrev highs : List ℤ
  highs = highs_of file o.vars

  -- ---- the states and their numbers
  pub ranges : Ranges lows highs
  ranges = ranges_file file o.vars most (readable.variable_range file o r)

  pub states_within : (1 ≤ count_of lows highs) × (count_of lows highs ≤ 1048576)
  states_within = readable.states_within file o r

  pub numbered : (n : ℕ) → n < count_of lows highs → State file o.vars (state_of lows highs n) × (number_of lows highs (state_of lows highs n) ≡ n)
  numbered n l = (state_within ranges n l, number_of_state ranges n l)

  pub state_zero : state_of lows highs 0 ≡ lows
  state_zero = first_state ranges

  pub next : (n : ℕ) → n + 1 < count_of lows highs → advance_of lows highs (state_of lows highs n) ≡ state_of lows highs (n + 1)
  next n l = advance_next ranges n l

  module _ (state : List ℤ) (s : State file o.vars state) where
    inside : (v : ℕ) → v < o.vars → In (get_or state v (pos 0)) (interval (value_b file v) (value_c file v))
    inside v l =
        let m = most in
        let w = within_at s v in
        record { above = rw (← (ends_at file o.vars 2 v (omega arith) l)) w.0; below = rw (← (ends_at file o.vars 4 v (omega arith) l)) w.1 }

    fits : (want : Sort) (at end : ℕ) (i : Interval) → Expression file o.vars 16 want at end i → Fits 16 want (part_at file at) state
    fits want at end i x = expression_fits file o.vars most state inside 16 want at end i x

    pub number : (number_of lows highs state < count_of lows highs) × (state_of lows highs (number_of lows highs state) ≡ state)
    number = (number_below s, state_of_number s)

    -- ---- expressions
    pub number_lies : (levels at end : ℕ) (i : Interval) → Expression file o.vars levels number_sort at end i → In (worth levels (part_at file at) state) i
    number_lies levels at end i x = number_in file o.vars most state inside levels number_sort at end i x refl

    pub start_fits : Fits 16 truth_sort (part_at file (o.vars + 1)) state
    start_fits = fits _ _ _ _ (readable.start file o r).expression

    pub claimed_fits : (i : ℕ) (l : i < expressions_of file o.property) → Fits 16 truth_sort (part_at file (readable.claimed file o r i l).place) state
    claimed_fits i l = fits _ _ _ _ (readable.claimed file o r i l).expression

    pub assertion_fits : (n : ℕ) (l : n < o.nodes) → Fits 16 truth_sort (part_at file ((readable.node file o r n l).place + 1)) state
    assertion_fits n l = fits _ _ _ _ (readable.node file o r n l).assertion

    pub transition_fits : (t : ℕ) (l : t < o.transitions) → TransitionFits file (readable.transition file o r t l).place state
    transition_fits t l =
        let x = readable.transition file o r t l in
        let values = updates_fit file o.vars x.end state most (fits number_sort) (length file / 8) x.behind x.updates in
        record { guard = fits _ _ _ _ x.guard; updates = rw (behind_end x.guard) values }

    -- ---- a transition's updates: all that reading found, of no variable twice
    module _ (t : ℕ) (l : t < o.transitions) where
      abbrev here : Transition file o t
      here = readable.transition file o r t l

      abbrev list : List Updating
      list = update_list file here.place state

      pub updates_all : list ≡ found here.updates state
      updates_all =
          rw (list_from file here.place state, behind_end here.guard)
          (list_found file o.vars here.end state (length file / 8) here.behind here.updates (omega arith))

      pub updates_variables : variables list ≡ here.sets
      updates_variables = rw updates_all (found_variables file o.vars here.end state here.behind here.updates)

      pub updates_once : Once list
      updates_once = rw updates_all (found_once file o.vars here.end state here.behind here.updates)

      -- ---- its successors, variable by variable: what lies between the ends
      abbrev Between : List ℤ → Type 0
      Between next = Within (lowest_of file here.place state) (highest_of file here.place state) next

      module _ (v : ℕ) where
        ends_value : (x y : ℤ) → SetIn v x y list
            → (get_or (lowest_of file here.place state) v (pos 0) ≡ x) × (get_or (highest_of file here.place state) v (pos 0) ≡ y)
        ends_value x y a =
            let m = most in
            let named = found_named file o.vars here.end state v x y here.behind here.updates (rw updates_all at a) in
            let there : v < length state = omega (arith, (within_length s).0, ends_length file o.vars 2) in (
              rw (lowest_is file here.place state) (updated_value (λ u. u.low) v x y x (λ u p q. p) list state there updates_once a),
              rw (highest_is file here.place state) (updated_value (λ u. u.high) v x y y (λ u p q. q) list state there updates_once a),
            )

        ends_rest : Unset v list → (get_or (lowest_of file here.place state) v (pos 0) ≡ get_or state v (pos 0))
            × (get_or (highest_of file here.place state) v (pos 0) ≡ get_or state v (pos 0))
        ends_rest u = (
          rw (lowest_is file here.place state) (updated_rest (λ u. u.low) v list state u),
          rw (highest_is file here.place state) (updated_rest (λ u. u.high) v list state u),
        )

        pub successor_value : (x y : ℤ) → SetIn v x y list → {next : List ℤ} → Between next → (x ≤ℤ get_or next v (pos 0)) × (get_or next v (pos 0) ≤ℤ y)
        successor_value x y a b = let e = ends_value x y a in let w = within_at b v in (rw e.0 at w.0, rw e.1 at w.1)

        pub successor_rest : Unset v list → {next : List ℤ} → Between next → get_or next v (pos 0) ≡ get_or state v (pos 0)
        successor_rest u b =
            let e = ends_rest u in
            let w = within_at b v in
            omega (ints, w.0, w.1, e.0, e.1)

      pub successor_any : (next : List ℤ) → length next ≡ length state
          → ((v : ℕ) (x y : ℤ) → SetIn v x y list → (x ≤ℤ get_or next v (pos 0)) × (get_or next v (pos 0) ≤ℤ y))
          → ((v : ℕ) → Unset v list → get_or next v (pos 0) ≡ get_or state v (pos 0)) → Between next
      successor_any next n set rest =
          at_within (lowest_of file here.place state) (highest_of file here.place state) next
          (rw (lowest_is file here.place state) (updated_length (λ u. u.low) list state))
          (rw (highest_is file here.place state) (updated_length (λ u. u.high) list state)) n
          (λ v below. ⊎_elim
          (λ a. let e = ends_value v a.0 a.1 a.2 in let w = set v a.0 a.1 a.2 in (rw e.0 w.0, rw e.1 w.1))
          (λ u. let e = ends_rest v u in (rw (e.0, rest v u) (≤ℤ_refl _), rw (e.1, rest v u) (≤ℤ_refl _))) (set_or_not v list))
