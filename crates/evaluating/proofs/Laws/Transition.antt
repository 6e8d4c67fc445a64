-- Laws of what a transition does.
--     in_range_both, in_range_ends                a value in range lies between the range's ends
--     range_none, range_more                      whether all values lie in range, of none and of one more
--     updated_none, updated_more                  the values that are made, of none and of one more
--     lowest_within, highest_within               values in range make states of a state, of the lowest and of the highest
--     between_ranges                              the lowest is nowhere above the highest
--     pick_is, assignment_is, end_alike           the update at a record, by its kind; where it ends doesn't depend on the state
--     list_end, list_none, list_more              the updates from a record on: none are left, the record is none, one more
--     list_from                                   those of a transition begin behind its guard
--     fits_more, list_ordered                     an update of a transition that fits, and those behind it; the values of each are in order
--     updated_value, updated_rest                 the values of what is set, and the others as they were, where no variable is set twice
--     set_or_not, updated_length                  each variable is set, or it isn't; none is added
--     found_is, list_found                        the updates from a record on are those that reading found there
--     found_variables, found_once, found_named    those are of the variables that reading lists, none twice, each of them the file's
-- Assumes nothing.
use mathlib.Core.Path.{◌≡◌, refl, sym, ap, subst, ◌∙◌}
use mathlib.Core.List.{List, [], ◌∷◌, map}
use mathlib.Core.Logic.{◌⊎◌, inl, inr, ⊎_elim}
use mathlib.Core.Bool.{true, false, ◌&&◌, and-eq-true_iff, false≢true}
use Prim.Native.Nat.{ℕ, zero, suc, ◌+◌, ◌/◌, ◌<◌, ◌≤◌}
use native.Mathlib.Omega.{arith}
use borrow.Author.Tests.{eq-eqb, eqb-true}
use lib.Dec.{eqb}
use lib.IntN.{ℤ, pos}
use lib.ListN.{length, get_or, set, length-set}
use lib.Seq.{get_or-set_same, get_or-set_other}
use lib.Signed.{le_z, ◌≤ℤ◌, ≤ℤ_refl}
use Rattle.truths.proofs.Laws.Truth.{by-test}
use Rattle.integers.proofs.Laws.Parts.{ints}
use Rattle.records.specs.Record.{field_a, value_b, value_c, kind_is}
use Rattle.records.specs.Kind.{number as number_sort}
use Rattle.sections.specs.Section.{is_update}
use Rattle.sections.proofs.Laws.Section.{update_here}
use Rattle.intervals.proofs.Laws.Expression.{expression_within}
use Rattle.reading.specs.Readable.{Apart, Update as Read, Updates}
use Rattle.expressions.specs.Expression.{part_at, behind, number}
use Rattle.expressions.proofs.Laws.Part.{behind_end}
use Rattle.evaluating.specs.declared.Update.{Update}
use Rattle.states.specs.State.{Within}
use Rattle.states.specs.Ranges.{Ranges}
use Rattle.evaluating.specs.Transition.{assignment_at, pick_at, update_at, updates_from, update_list, in_range_of, all_in_range, updated, lowest, highest}
use Rattle.evaluating.specs.Fits.{UpdateFits, UpdatesFit}
use Rattle.states.proofs.Laws.State.{within_set, ranges_set}

-- ---- values in range, and the states that they make
module _ (value : Update → ℤ) where
  pub updated_none : (state : List ℤ) → updated value [] state ≡ state
  unfolding updated
  updated_none state = refl

  pub updated_more : (u : Update) (rest : List Update) (state : List ℤ)
      → updated value (u ∷ rest) state ≡ updated value rest (set state u.variable (value u))
  unfolding updated
  updated_more u rest state = refl

module _ (lows highs : List ℤ) where
  pub in_range_both : (i : ℕ) (x : ℤ) → in_range_of lows highs i x ≡ (le_z (get_or lows i (pos 0)) x && le_z x (get_or highs i (pos 0)))
  unfolding in_range_of
  in_range_both i x = refl

  pub in_range_ends : (i : ℕ) (x : ℤ) → in_range_of lows highs i x ≡ true → (get_or lows i (pos 0) ≤ℤ x) × (x ≤ℤ get_or highs i (pos 0))
  in_range_ends i x e =
      let b = (and-eq-true_iff (le_z (get_or lows i (pos 0)) x) (le_z x (get_or highs i (pos 0)))).0 (rw in_range_both at e) in
      (omega ints, omega ints)

  pub range_none : all_in_range lows highs [] ≡ true
  unfolding all_in_range
  range_none = refl

  pub range_more : (u : Update) (rest : List Update) → all_in_range lows highs (u ∷ rest)
      ≡ (in_range_of lows highs u.variable u.low && in_range_of lows highs u.variable u.high && all_in_range lows highs rest)
  unfolding all_in_range
  range_more u rest = refl

  -- both values of an update, and those of the others
  range_parts : (u : Update) (rest : List Update) → all_in_range lows highs (u ∷ rest) ≡ true
      → (in_range_of lows highs u.variable u.low ≡ true) × (in_range_of lows highs u.variable u.high ≡ true) × (all_in_range lows highs rest ≡ true)
  range_parts u rest e =
      let l = in_range_of lows highs u.variable u.low in
      let h = in_range_of lows highs u.variable u.high in
      let b = (and-eq-true_iff (l && h) (all_in_range lows highs rest)).0 (rw (range_more u rest) at e) in
      let c = (and-eq-true_iff l h).0 b.0 in
      (c.0, c.1, b.1)

  -- of the values by which the variables are set each lies in range
  module _ (value : Update → ℤ)
      (in_range_lem : (u : Update) (rest : List Update) → all_in_range lows highs (u ∷ rest) ≡ true → in_range_of lows highs u.variable (value u) ≡ true) where
    updated_within : (list : List Update) (state : List ℤ) → Within lows highs state → all_in_range lows highs list ≡ true
        → Within lows highs (updated value list state)
    unfolding updated
    updated_within [] state w e = w
    updated_within (u ∷ rest) state w e =
        let r = in_range_ends u.variable (value u) (in_range_lem u rest e) in
        updated_within rest (set state u.variable (value u)) (within_set w u.variable r.0 r.1) (range_parts u rest e).2

  module _ (list : List Update) (state : List ℤ) (w : Within lows highs state) (e : all_in_range lows highs list ≡ true) where
    pub lowest_within : Within lows highs (lowest list state)
    lowest_within = updated_within (λ u. u.low) (λ u rest e. (range_parts u rest e).0) list state w e

    pub highest_within : Within lows highs (highest list state)
    highest_within = updated_within (λ u. u.high) (λ u rest e. (range_parts u rest e).1) list state w e

-- the values of each update are in order
abbrev pub Ordered : List Update → Type 0
Ordered [] = Unit {0}
Ordered (u ∷ rest) = (u.low ≤ℤ u.high) × Ordered rest

pub between_ranges : (list : List Update) → Ordered list → (l h : List ℤ) → Ranges l h → Ranges (lowest list l) (highest list h)
unfolding updated
between_ranges [] o l h r = r
between_ranges (u ∷ rest) o l h r = between_ranges rest o.1 (set l u.variable u.low) (set h u.variable u.high) (ranges_set r u.variable o.0)

-- ---- the updates from a record on
module _ (file : List ℕ) (at : ℕ) where
  pub pick_is : (state : List ℤ) → kind_is file 0x08 at ≡ true
      → update_at file at state ≡ record { variable = field_a file at; low = value_b file at; high = value_c file at; end = at + 1 }
  unfolding update_at pick_at
  pick_is state k = rw k

  pub assignment_is : (state : List ℤ) → kind_is file 0x08 at ≡ false
      → update_at file at state
      ≡ (let x = number 16 (part_at file (at + 1)) state in record { variable = field_a file at; low = x; high = x; end = behind file (at + 1) })
  unfolding update_at assignment_at
  assignment_is state k = rw k

  pub end_alike : (s t : List ℤ) → (update_at file at s).end ≡ (update_at file at t).end
  end_alike s t =
      by-test (kind_is file 0x08 at) (λ b. (update_at file at s).end ≡ (update_at file at t).end)
      (λ k. rw (pick_is s k, pick_is t k)) (λ k. rw (assignment_is s k, assignment_is t k))

  pub update_variable : (state : List ℤ) → (update_at file at state).variable ≡ field_a file at
  update_variable state =
      by-test (kind_is file 0x08 at) (λ b. (update_at file at state).variable ≡ field_a file at) (λ k. rw (pick_is state k)) (λ k. rw (assignment_is state k))

  module _ (state : List ℤ) where
    pub list_end : updates_from file 0 at state ≡ []
    unfolding updates_from
    list_end = refl

    pub list_none : (left : ℕ) → is_update file at ≡ false → updates_from file left at state ≡ []
    unfolding updates_from
    list_none zero e = refl
    list_none (suc n) e = rw e

    pub list_more : {left n : ℕ} → left ≡ suc n → is_update file at ≡ true
        → updates_from file left at state ≡ update_at file at state ∷ updates_from file n (update_at file at state).end state
    unfolding updates_from
    list_more is e = rw (is, e)

    pub list_from : update_list file at state ≡ updates_from file (length file / 8) (behind file (at + 1)) state
    unfolding update_list
    list_from = refl

    pub fits_more : {left n : ℕ} → left ≡ suc n → is_update file at ≡ true → UpdatesFit file left at state
        → UpdateFits file at state × UpdatesFit file n (update_at file at state).end state
    unfolding UpdatesFit
    fits_more is e h = (rw is at h) e

    pub update_ordered : UpdateFits file at state → (update_at file at state).low ≤ℤ (update_at file at state).high
    update_ordered h =
        by-test (kind_is file 0x08 at) (λ b. (update_at file at state).low ≤ℤ (update_at file at state).high)
        (λ k. rw (pick_is state k) (h.ordered k)) (λ k. rw (assignment_is state k) (≤ℤ_refl _))

pub list_ordered : (file : List ℕ) (state : List ℤ) (n at : ℕ) → UpdatesFit file n at state → Ordered (updates_from file n at state)
list_ordered file state zero at h = rw (list_end file at state) tt
list_ordered file state (suc n) at h =
    by-test (is_update file at) (λ b. Ordered (updates_from file (suc n) at state))
    (λ e.
    let f = fits_more file at state {n = n} refl e h in
    rw (list_more file at state {n = n} refl e) (update_ordered file at state f.0, list_ordered file state n (update_at file at state).end f.1))
    (λ e. rw (list_none file at state (suc n) e) tt)

-- ---- the values that are set, and the others
-- the variables that are set, in order
abbrev pub variables : List Update → List ℕ
variables list = map (λ (u : Update). u.variable) list

-- variable v is not set
abbrev pub Unset : ℕ → List Update → Type 0
Unset v [] = Unit {0}
Unset v (u ∷ rest) = (v ≡ u.variable → ⊥) × Unset v rest

-- no variable is set twice
abbrev pub Once : List Update → Type 0
Once [] = Unit {0}
Once (u ∷ rest) = Unset u.variable rest × Once rest

-- a variable is set, to values from l to h
pub data SetIn (v : ℕ) (l h : ℤ) : List Update → Type 0 where
  here : {u : Update} {rest : List Update} → u.variable ≡ v → u.low ≡ l → u.high ≡ h → SetIn v l h (u ∷ rest)
  later : {u : Update} {rest : List Update} → SetIn v l h rest → SetIn v l h (u ∷ rest)

module _ (value : Update → ℤ) where
  pub updated_rest : (v : ℕ) (list : List Update) (state : List ℤ) → Unset v list → get_or (updated value list state) v (pos 0) ≡ get_or state v (pos 0)
  unfolding updated
  updated_rest v [] state u = refl
  updated_rest v (a ∷ rest) state u =
      updated_rest v rest (set state a.variable (value a)) u.1 ∙ get_or-set_other state a.variable v (value a) (pos 0) u.0

  -- x is the value of each update that sets a variable from l to h
  pub updated_value : (v : ℕ) (l h x : ℤ) → ((u : Update) → u.low ≡ l → u.high ≡ h → value u ≡ x)
      → (list : List Update) (state : List ℤ) → v < length state → Once list → SetIn v l h list → get_or (updated value list state) v (pos 0) ≡ x
  unfolding updated
  updated_value v l h x is [] state m o y = elim y [ ]
  updated_value v l h x is (a ∷ rest) state m o (SetIn.here p q r) =
      updated_rest v rest (set state a.variable (value a)) (subst (λ (w : ℕ). Unset w rest) p o.0)
      ∙ subst (λ (w : ℕ). get_or (set state w (value a)) v (pos 0) ≡ x) (sym p) (get_or-set_same state v (value a) (pos 0) m ∙ is a q r)
  updated_value v l h x is (a ∷ rest) state m o (SetIn.later y) =
      let z : v < length (set state a.variable (value a)) = rw length-set m in
      updated_value v l h x is rest (set state a.variable (value a)) z o.1 y

-- each variable is set, or it isn't
pub set_or_not : (v : ℕ) (list : List Update) → ((l : ℤ) × (h : ℤ) × SetIn v l h list) ⊎ Unset v list
set_or_not v [] = inr tt
set_or_not v (u ∷ rest) =
    by-test (eqb u.variable v) (λ b. ((l : ℤ) × (h : ℤ) × SetIn v l h (u ∷ rest)) ⊎ Unset v (u ∷ rest))
    (λ e. inl (u.low, u.high, SetIn.here (eqb-true _ _ e) refl refl))
    (λ e. ⊎_elim (λ s. inl (s.0, s.1, SetIn.later s.2)) (λ n. inr (λ z. false≢true (sym e ∙ eq-eqb _ _ (sym z)), n)) (set_or_not v rest))

pub updated_length : (value : Update → ℤ) (list : List Update) (state : List ℤ) → length (updated value list state) ≡ length state
unfolding updated
updated_length value [] state = refl
updated_length value (u ∷ rest) state = updated_length value rest (set state u.variable (value u)) ∙ length-set state u.variable (value u)

-- ---- the updates that reading found: each with its variable, its values in the state, and the record behind it
abbrev pub found_at : {file : List ℕ} {vars at end : ℕ} → Read file vars at end → List ℤ → Update
found_at {file} {at = at} {end = end} (Read.assigns k x) state =
    let y = number 16 (part_at file (at + 1)) state in record { variable = field_a file at; low = y; high = y; end = end }
found_at {file} {at = at} (Read.picks k o l h) state = record { variable = field_a file at; low = value_b file at; high = value_c file at; end = at + 1 }

abbrev pub found : {file : List ℕ} {vars end at : ℕ} {vs : List ℕ} → Updates file vars end at vs → List ℤ → List Update
found (Updates.none e) state = []
found (Updates.more e l x rest apart) state = found_at x state ∷ found rest state

module _ (file : List ℕ) (vars end : ℕ) (state : List ℤ) where
  pub found_is : {at mid : ℕ} (x : Read file vars at mid) → (update_at file at state ≡ found_at x state) × ((found_at x state).end ≡ mid) × (at < mid)
      × ((found_at x state).variable ≡ field_a file at)
  found_is {at} {mid} (Read.assigns k x) =
      (rw (assignment_is file at state k, behind_end x), refl, omega (arith, (expression_within file vars number_sort (at + 1) mid x).0), refl)
  found_is {at} (Read.picks k o l h) = (pick_is file at state k, refl, omega arith, refl)

  pub list_found : (n at : ℕ) {vs : List ℕ} (h : Updates file vars end at vs) → length file / 8 ≤ at + n → updates_from file n at state ≡ found h state
  list_found n at (Updates.none e) m = list_none file at state n e
  list_found zero at (Updates.more e l x rest apart) m = absurd (omega (arith, update_here file at e))
  list_found (suc n) at (Updates.more {mid = mid} e l x rest apart) m =
      let f = found_is x in
      rw (list_more file at state {n = n} refl e, f.0, f.1, list_found n mid rest (omega (arith, f.2)))

  pub found_variables : (at : ℕ) {vs : List ℕ} (h : Updates file vars end at vs) → variables (found h state) ≡ vs
  found_variables at (Updates.none e) = refl
  found_variables at (Updates.more {mid = mid} e l x rest apart) =
      rw (found_is x).3 (ap (λ (vs : List ℕ). field_a file at ∷ vs) (found_variables mid rest))

  found_apart : (v at : ℕ) {vs : List ℕ} (h : Updates file vars end at vs) → Apart v vs → Unset v (found h state)
  found_apart v at (Updates.none e) p = tt
  found_apart v at (Updates.more {mid = mid} e l x rest apart) p = (rw (found_is x).3 p.0, found_apart v mid rest p.1)

  pub found_once : (at : ℕ) {vs : List ℕ} (h : Updates file vars end at vs) → Once (found h state)
  found_once at (Updates.none e) = tt
  found_once at (Updates.more {mid = mid} e l x rest apart) = (rw (found_is x).3 (found_apart (field_a file at) mid rest apart), found_once mid rest)

  pub found_named : (v : ℕ) (y z : ℤ) (at : ℕ) {vs : List ℕ} (h : Updates file vars end at vs) → SetIn v y z (found h state) → v < vars
  found_named v y z at (Updates.none e) m = elim m [ ]
  found_named v y z at (Updates.more e l x rest apart) (SetIn.here p q r) = omega (arith, (found_is x).3)
  found_named v y z at (Updates.more {mid = mid} e l x rest apart) (SetIn.later m) = found_named v y z mid rest m
