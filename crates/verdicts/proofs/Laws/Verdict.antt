-- Laws of the verdict on a readable file.
--     true_at, true_holds              a condition is true exactly if it holds at every number's state
--     Breaks, breaks_first             the first state that breaks a condition; one that is not true has it
--     judged_broken, judged_whole      the verdict where a condition is broken, those before it true; and where none is (C12.3, C12.2)
--     Broken, Whole, judged_cases      it is one of these two
--     check_short, check_long          a report buffer of under 32 bytes is refused with 1; with a longer one the verdict on the file is given (C10.1)
--     verdict_refused                  that of a file that reading refuses
--     verdict_startless, verdict_judged     of one whose parts are found, by whether there is a starting state (C10.20)
-- Assumes nothing.
use mathlib.Core.Path.{◌≡◌, refl}
use mathlib.Core.Logic.{◌⊎◌, inl, inr}
use mathlib.Core.Bool.{Bool, true, false}
use mathlib.Core.List.{List}
use Prim.Native.Nat.{ℕ, ◌+◌, ◌*◌, ◌<◌, ◌≤◌}
use native.Mathlib.Nat.{le_refl, lt_irrefl, le_of_lt, lt_of_lt_of_le}
use borrow.Author.Tests.{lt-ltb, le-ltb, ltb-true, ltb-false, le-leb, lt-leb, leb-true, leb-false}
use lib.Dec.{ltb}
use Rattle.std.specs.declared.result.Result.TheVariants.{Err}
use Rattle.shapes.specs.declared.Refusal.{Refusal}
use Rattle.diagrams.specs.declared.Diagram.{Diagram}
use Rattle.diagrams.specs.Diagram.{found_of, Loaded, state_at}
use Rattle.diagrams.specs.Start.{starts_of}
use Rattle.diagrams.proofs.Laws.Start.{start_follows, start_refused}
use Rattle.conditions.specs.Condition.{total_of, condition_at}
use Rattle.testing.specs.Holding.{condition_holds}
use Rattle.verdicts.specs.Verdict.{unnamed_of, named_of, breaking_of, is_true, broken_of, broken_at, tests_of, judged_of, refused_of, verdict_of, check_of}
use Rattle.conditions.specs.declared.Condition.{Condition}
use Rattle.report.specs.declared.Verdict.{Verdict}
use Rattle.truths.proofs.Laws.First.{first_is, first_passes, first_fails}

module _ (file : List ℕ) (g : Diagram) where
  abbrev holds_at : Condition → ℕ → Bool
  holds_at c n = condition_holds file g c (state_at g n)

  abbrev true_of : ℕ → Bool
  true_of k = is_true file g (condition_at file g k)

  -- ---- one condition
  pub true_at : (c : Condition) → ((n : ℕ) → n < g.states → condition_holds file g c (state_at g n) ≡ true) → is_true file g c ≡ true
  unfolding is_true breaking_of
  true_at c h =
      let s = g.states in
      rw (first_is (holds_at c) s s (le_refl s) h (λ l. absurd (lt_irrefl s l))) (le-leb s s (le_refl s))

  pub true_holds : (c : Condition) → is_true file g c ≡ true → (n : ℕ) → n < g.states → condition_holds file g c (state_at g n) ≡ true
  unfolding is_true breaking_of
  true_holds c t n l = first_passes (holds_at c) g.states n (lt_of_lt_of_le l (leb-true _ _ t))

  -- n is the first state that breaks the condition
  pub record Breaks (c : Condition) (n : ℕ) : Type 0 where
    pub state : n < g.states
    pub held : (k : ℕ) → k < n → condition_holds file g c (state_at g k) ≡ true
    pub fails : condition_holds file g c (state_at g n) ≡ false

  module _ (c : Condition) {n : ℕ} (b : Breaks c n) where
    breaks_at : breaking_of file g c ≡ n
    unfolding breaking_of
    breaks_at = first_is (holds_at c) g.states n (le_of_lt b.state) b.held (λ k. b.fails)

    not-true : is_true file g c ≡ false
    unfolding is_true
    not-true = rw breaks_at (lt-leb g.states n b.state)

  pub breaks_first : (c : Condition) → is_true file g c ≡ false → Breaks c (breaking_of file g c)
  unfolding is_true breaking_of
  breaks_first c f =
      let l = leb-false _ _ f in
      let s = g.states in
      record { state = l; held = λ k m. first_passes (holds_at c) s k m; fails = first_fails (holds_at c) s l }

  -- ---- the verdict
  pub judged_whole : ((k : ℕ) → k < total_of file g → is_true file g (condition_at file g k) ≡ true)
      → judged_of file g ≡ unnamed_of 0 (total_of file g) (total_of file g * g.states)
  unfolding judged_of tests_of broken_of
  judged_whole h =
      let t = total_of file g in
      rw (first_is true_of t t (le_refl t) h (λ l. absurd (lt_irrefl t l)), le-ltb t t (le_refl t))

  pub judged_broken : (k : ℕ) → k < total_of file g → ((j : ℕ) → j < k → is_true file g (condition_at file g j) ≡ true)
      → (n : ℕ) → Breaks (condition_at file g k) n
      → judged_of file g ≡ named_of (condition_at file g k) k (state_at g n) (k * g.states + n + 1)
  unfolding judged_of tests_of broken_at broken_of
  judged_broken k l before n b =
      let c = condition_at file g k in
      let t = total_of file g in
      rw (first_is true_of t k (le_of_lt l) before (λ j. not-true c b), lt-ltb k t l, breaks_at c b)

  -- condition k is the first that is not true, state n the first that breaks it
  pub record Broken (v : Verdict) : Type 0 where
    pub k : ℕ
    pub n : ℕ
    pub below : k < total_of file g
    pub before : (j : ℕ) → j < k → is_true file g (condition_at file g j) ≡ true
    pub breaks : Breaks (condition_at file g k) n
    pub is : v ≡ named_of (condition_at file g k) k (state_at g n) (k * g.states + n + 1)

  pub record Whole (v : Verdict) : Type 0 where
    pub all : (k : ℕ) → k < total_of file g → is_true file g (condition_at file g k) ≡ true
    pub is : v ≡ unnamed_of 0 (total_of file g) (total_of file g * g.states)

  pub judged_cases : Broken (judged_of file g) ⊎ Whole (judged_of file g)
  unfolding broken_of
  judged_cases = go (ltb first total) refl
    where
      total : ℕ
      total = total_of file g

      first : ℕ
      first = broken_of file g

      before : (j : ℕ) → j < first → is_true file g (condition_at file g j) ≡ true
      before j l = first_passes true_of total j l

      go : (b : Bool) → ltb first total ≡ b → Broken (judged_of file g) ⊎ Whole (judged_of file g)
      go true e =
          let l = ltb-true _ _ e in
          let b = breaks_first (condition_at file g first) (first_fails true_of total l) in
          inl (record { k = first; n = _; below = l; before = before; breaks = b; is = judged_broken first l before _ b })
      go false e =
          let all : (k : ℕ) → k < total → is_true file g (condition_at file g k) ≡ true = λ k l. before k (lt_of_lt_of_le l (ltb-false _ _ e)) in
          inr (record { all = all; is = judged_whole all })

-- ---- any file
module _ (file : List ℕ) where
  pub check_short : {room : ℕ} → room < 32 → check_of file room ≡ refused_of Refusal.Buffer
  unfolding check_of
  check_short l = rw (lt-ltb _ _ l)

  pub check_long : {room : ℕ} → 32 ≤ room → check_of file room ≡ verdict_of file
  unfolding check_of
  check_long l = rw (le-ltb _ _ l)

  pub verdict_refused : (refusal : Refusal) → found_of file ≡ Err refusal → verdict_of file ≡ refused_of refusal
  unfolding verdict_of
  verdict_refused refusal is = rw is

  module _ (g : Diagram) (r : Loaded file g) where
    pub verdict_startless : starts_of file g ≡ false → verdict_of file ≡ refused_of Refusal.NoStart
    unfolding verdict_of
    verdict_startless e = rw (r.found, ← r.is) (start_refused refused_of file g (judged_of file g) e)

    pub verdict_judged : starts_of file g ≡ true → verdict_of file ≡ judged_of file g
    unfolding verdict_of
    verdict_judged e = rw (r.found, ← r.is) (start_follows refused_of file g (judged_of file g) e)
