-- What the verdict on a readable file decides.
--     number_is                            equal verdicts have one number
--     true_everywhere, everywhere_true     a condition is true exactly if it holds at each state, by its values (C8.14)
--     accepted, accepts                    number 0 says that every condition holds at every state; where all do, the verdict is 0 with the total (C12.2)
--     refused                              any other number names the first condition that is not true, with the lowest state that breaks it (C12.3 to C12.5)
--     judged_tests                         the tests of a verdict are as many as are made one after the other up to the first that fails (C12.7, C12.10)
--     judges                               all of it (C12.9)
--     named_once                           two verdicts that name a condition of a file name the same one, with the same state (C12.12)
-- Assumes nothing.
use mathlib.Core.Path.{◌≡◌, refl, sym, ap, ◌∙◌}
use mathlib.Core.Logic.{◌⊎◌, inl, inr}
use mathlib.Core.Bool.{true, false≢true}
use mathlib.Core.List.{List}
use Prim.Native.Nat.{ℕ, ◌*◌, ◌<◌}
use native.Mathlib.Omega.{arith}
use lib.ListN.{length}
use lib.IntN.{ℤ}
use Rattle.diagrams.specs.declared.Diagram.{Diagram}
use Rattle.diagrams.specs.Diagram.{Loaded, State, state_at, state_number}
use Rattle.diagrams.proofs.Laws.Diagram.{state_numbered, number_state}
use Rattle.conditions.specs.Condition.{total_of, condition_at, Listed}
use Rattle.conditions.specs.declared.Condition.{Condition}
use Rattle.conditions.proofs.Laws.Condition.{condition_listed, listed_number, refusal_above}
use Rattle.testing.specs.Holding.{condition_holds}
use Rattle.report.specs.declared.Verdict.{Verdict}
use Rattle.verdicts.specs.Verdict.{unnamed_of, is_true, judged_of}
use Rattle.verdicts.proofs.Laws.Verdict.{true_at, true_holds, judged_whole, Broken, Whole, judged_cases}
use Rattle.deciding.specs.Decision.{Everywhere, Names, tests_made, Judges}
use Rattle.deciding.proofs.Laws.Tests.{made_whole, made_broken}

-- the number of a verdict, by what it is
pub number_is : {v w : Verdict} → v ≡ w → v.number ≡ w.number
number_is e = ap (λ (v : Verdict). v.number) e

module _ (file : List ℕ) (g : Diagram) where
  abbrev Cases : Type 0
  Cases = Broken file g (judged_of file g) ⊎ Whole file g (judged_of file g)

  pub judged_tests : (judged_of file g).tests ≡ length (tests_made file g)
  unfolding tests_made
  judged_tests = go (judged_cases file g)
    where
      go : Cases → (judged_of file g).tests ≡ length (tests_made file g)
      go (inl b) =
          let x = b.breaks in
          rw b.is
          (sym
          (made_broken _ _ _ b.k b.n b.below x.state (λ j l. true_holds file g (condition_at file g j) (b.before j l)) x.held x.fails))
      go (inr w) = rw w.is (sym (made_whole _ _ _ (λ k l. true_holds file g (condition_at file g k) (w.all k l))))

  module _ (r : Loaded file g) where
    -- ---- states by their values, and by their numbers
    by_number : (c : Condition) (n : ℕ) → ((k : ℕ) → k < n → condition_holds file g c (state_at g k) ≡ true)
        → (state : List ℤ) → State g state → state_number g state < n → condition_holds file g c state ≡ true
    by_number c n h state s l = rw (number_state file g r state s).1 at (h (state_number g state) l)

    pub true_everywhere : (c : Condition) → is_true file g c ≡ true → Everywhere file g c
    true_everywhere c t state s = by_number c g.states (true_holds file g c t) state s (number_state file g r state s).0

    pub everywhere_true : (c : Condition) → Everywhere file g c → is_true file g c ≡ true
    everywhere_true c h = true_at file g c (λ n l. h (state_at g n) (state_numbered file g r n l).0)

    -- ---- acceptance
    pub accepted : (judged_of file g).number ≡ 0 → (c : Condition) → Listed file g c → Everywhere file g c
    accepted e c m = go (judged_cases file g)
      where
        go : Cases → Everywhere file g c
        go (inl b) = absurd (omega (arith, sym (number_is b.is) ∙ e, refusal_above (condition_at file g b.k)))
        go (inr w) = let x = listed_number file g r c m in rw x.2 at (true_everywhere (condition_at file g x.0) (w.all x.0 x.1))

    pub accepts : ((c : Condition) → Listed file g c → Everywhere file g c)
        → judged_of file g ≡ unnamed_of 0 (total_of file g) (total_of file g * g.states)
    accepts h = judged_whole file g (λ k l. everywhere_true (condition_at file g k) (h (condition_at file g k) (condition_listed file g r k l)))

    -- ---- refusal
    pub refused : ((judged_of file g).number ≡ 0 → ⊥) → Names file g (judged_of file g)
    refused h = go (judged_cases file g)
      where
        go : Cases → Names file g (judged_of file g)
        go (inl b) =
            let x = b.breaks in
            let s = state_numbered file g r b.n x.state in
            rw b.is
            (record {
              below = b.below;
              number = refl;
              node = refl;
              transition = refl;
              first = λ j l. true_everywhere (condition_at file g j) (b.before j l);
              state = s.0;
              breaks = x.fails;
              lowest = λ state w l. by_number (condition_at file g b.k) b.n x.held state w (rw s.1 at l);
            })
        go (inr w) = absurd (h (number_is w.is))

    pub judges : Judges file g (judged_of file g)
    judges = record { accepts = (accepted, λ h. number_is (accepts h)); names = refused; tests = judged_tests }

    -- ---- no other condition, and no other state
    not_before : {v w : Verdict} → Names file g v → Names file g w → v.at < w.at → ⊥
    not_before {v} a b l = false≢true (sym a.breaks ∙ b.first v.at l v.values a.state)

    not_lower : {v w : Verdict} → Names file g v → Names file g w → v.at ≡ w.at → state_number g v.values < state_number g w.values → ⊥
    not_lower {v} a b e l = false≢true (sym a.breaks ∙ rw e (b.lowest v.values a.state l))

    neither : {m n : ℕ} → (m < n → ⊥) → (n < m → ⊥) → m ≡ n
    neither a b = omega (arith, a, b)

    pub named_once : {v w : Verdict} → Names file g v → Names file g w → (v.at ≡ w.at) × (v.values ≡ w.values)
    named_once {v} {w} a b = (at, values)
      where
        at : v.at ≡ w.at
        at = neither (not_before a b) (not_before b a)

        values : v.values ≡ w.values
        values =
            sym (number_state file g r v.values a.state).1
            ∙ ap (state_at g) (neither (not_lower a b at) (not_lower b a (sym at)))
            ∙ (number_state file g r w.values b.state).1
