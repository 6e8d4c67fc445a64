-- What a file claims is no weaker than C7.9 says, and no stronger: small files with the system of Files.antt, each with a claim that is false of its runs,
-- or true. By a weaker definition of `Claimed` a false claim would be true, by a stronger one a true claim false.
--                           claim     the clause that it protects
--     begins                          of any such file: a run of its system begins in a state where its start is true (C7.10)
--     no_kind               false     of any file: there is no other kind (C1.10)
--     invariance_q          false     q holds at each position, from a starting state (C7.1)
--     invariance_range      false     values in range, in each node from 0 to the last, of each transition (C7.8)
--     invariance_node       true      values in range in the nodes only
--     wait_for_q            false     numbers, wherever p holds (C7.3)
--     wait_for_range        false     values in range, in each node from 1 to the last (C8.2)
--     wait_for_numbers      true      m = b - 1 (C1.11), and the q of each number; a = 2 claims neither an invariance nor a chain
--     wait_for_goal         true      where p holds only; in the goal a value may be out of range
--     chain_q               false     q comes, wherever p holds (C7.5, C7.6)
--     chain_node            false     some node is true there
--     chain_range           false     values in range, in each node from 1 to the last
--     chain_goal            true      where p holds only, the q behind p, all nodes; in the goal a value may be out of range; a = 3 claims no invariance
-- In an invariance, p and every q are its one q; in a chain, every q is. Behind a wait-for's last q none is true: with a larger m it claims the same.
-- Assumes nothing.
use mathlib.Core.Path.{◌≡◌, refl, subst}
use mathlib.Core.Logic.{inl}
use mathlib.Core.Bool.{not}
use mathlib.Core.List.{List, [], ◌∷◌}
use Prim.Native.Nat.{ℕ, zero, suc, ◌≤◌, ◌<◌, zero-le}
use native.Mathlib.Nat.{le_refl, add-zero}
use native.Mathlib.Omega.{arith}
use lib.Dec.{T, T_not, lit<, lit≤}
use lib.IntN.{ℤ}
use Rattle.diagrams.specs.declared.Diagram.{Diagram}
use Rattle.diagrams.proofs.Files.{double, plain, true}
use Rattle.diagrams.specs.Truth.{start_holds, node_holds, p_holds, q_holds}
use Rattle.runs.specs.Run.{Run, finite, IsRun, Just, KJust, at}
use Rattle.runs.specs.Claim.{Waiting}
use Rattle.shapes.specs.declared.Claim.{Claim as Kind}
use Rattle.soundness.specs.System.{system_of, Claimed, Claim}
use Rattle.soundness.proofs.Sharp.Computing.{claiming}
use Rattle.diagrams.proofs.Values.{v, state}
use Rattle.soundness.proofs.Laws.System.{state_run, step_run, idle_run}
use Rattle.soundness.proofs.Sharp.Files.{Case, Reads, is, invariance, wait_for, chain, file, diagram, loaded, claims, refuted, started}

-- ---- a start
pub begins : (c : Case) → Reads c → (x : Claim (file c))
    → (r : Run (List ℤ)) × IsRun (system_of (file c) (diagram c)) r × T (start_holds (file c) (diagram c) (at r 0))
begins c r x = started c r x

-- ---- kinds
-- of another kind nothing is true
pub no_kind : (file : List ℕ) (g : Diagram) → Claimed file g Kind.Unknown → ⊥
unfolding Claimed
no_kind file g c = c

-- ---- invariance
-- from the starting state v = 1 transition 0 leads to v = 2
abbrev left : Case
left = invariance (is 1) (is 1 ∷ [])

pub invariance_q : Claim (file left) → ⊥
unfolding claiming
invariance_q = refuted left refl (λ c.
    let run = step_run (file left) (diagram left) (loaded left refl) (v 1) (state (lit≤ tt)) 0 (lit< tt) (v 2) (tt, inl refl) in
    c.0 (finite (v 1) (v 2 ∷ [])) run tt 1 (lit< tt))

-- at v = 0 the guard of transition 1 is true, and v - 1 is out of range
abbrev low : Case
low = invariance (true ∷ []) (is 0 ∷ [])

pub invariance_range : Claim (file low) → ⊥
unfolding claiming
invariance_range = refuted low refl (λ c.
    let run = state_run (file low) (diagram low) (v 0) (state (lit≤ tt)) in
    c.1 (finite (v 0) []) run 0 (lit< tt) 0 (lit≤ tt) (lit< tt) tt 1 (lit< tt) tt)

-- q is true, node 0 nowhere
abbrev trivial : Case
trivial = invariance (true ∷ []) ((plain 0x21 ∷ []) ∷ [])

pub invariance_node : Claim (file trivial)
unfolding claiming
invariance_node = claims trivial refl refl (λ r run begins n h. tt, λ r run n h i from l y. absurd (nowhere i l (at r n) y))
  where
    nowhere : (i : ℕ) → i < 1 → (s : List ℤ) → T (node_holds (file trivial) (diagram trivial) i s) → ⊥
    nowhere zero l s y = y
    nowhere (suc i) l s y = omega arith

-- ---- wait-for
-- transition 0 leads from v = 0, where p and q_1 hold, to v = 1, where neither q_0 nor q_1 does
abbrev passed : Case
passed = wait_for (is 0) (is 2 ∷ is 0 ∷ []) (is 2 ∷ is 1 ∷ [])

pub wait_for_q : Claim (file passed) → ⊥
unfolding claiming
wait_for_q = refuted passed refl (λ c.
    let run = step_run (file passed) (diagram passed) (loaded passed refl) (v 0) (state (lit≤ tt)) 0 (lit< tt) (v 1) (tt, inl refl) in
    let x = c.0.numbered passing run 0 (lit< tt) tt in
    let one : x.number 1 ≡ 1 = omega (arith, x.from_one 1 waits, x.to_m 1 waits) in
    subst (λ (i : ℕ). T (q_holds (file passed) (diagram passed) i (v 1))) one (x.hold 1 waits))
  where
    passing : Run (List ℤ)
    passing = finite (v 0) (v 1 ∷ [])

    unmet : (j : ℕ) → 0 ≤ j → j ≤ 1 → T (not (q_holds (file passed) (diagram passed) 0 (at passing j)))
    unmet zero l h = tt
    unmet (suc zero) l h = tt
    unmet (suc (suc j)) l h = absurd (omega arith)

    waits : Waiting (q_holds (file passed) (diagram passed) 0) passing 0 1
    waits = record { from = lit≤ tt; position = lit< tt; unmet = unmet }

-- node 1 is v = 0; q_1 is true
abbrev lower : Case
lower = wait_for (is 2) (is 2 ∷ (true ∷ []) ∷ []) (is 2 ∷ is 0 ∷ [])

pub wait_for_range : Claim (file lower) → ⊥
unfolding claiming
wait_for_range = refuted lower refl (λ c.
    let run = state_run (file lower) (diagram lower) (v 0) (state (lit≤ tt)) in
    c.1 (finite (v 0) []) run 0 (lit< tt) 1 (lit≤ tt) (lit< tt) tt 1 (lit< tt) tt)

-- q_1 is true, node 1 nowhere; where p holds q_0 does not, nor need it come
abbrev numbered : Case
numbered = wait_for (is 0) (is 2 ∷ (true ∷ []) ∷ []) (is 2 ∷ (plain 0x21 ∷ []) ∷ [])

pub wait_for_numbers : Claim (file numbered)
unfolding claiming
wait_for_numbers = claims numbered refl refl (
  record {
    numbered = λ r run n h y.
        record {
          number = λ i. 1;
          from_one = λ i w. lit≤ tt;
          to_m = λ i w. lit≤ tt;
          never_rise = λ i j w w' l. lit≤ tt;
          hold = λ i w. tt;
        };
    at_once = λ e. absurd (omega arith);
  },
  λ r run n h i one l y. absurd (nowhere i one l (at r n) y),
)
  where
    nowhere : (i : ℕ) → 1 ≤ i → i < 2 → (s : List ℤ) → T (node_holds (file numbered) (diagram numbered) i s) → ⊥
    nowhere zero one l s y = omega arith
    nowhere (suc zero) one l s y = y
    nowhere (suc (suc i)) one l s y = omega arith

-- p, q_0 and the goal are v = 2, where the guard of transition 0 is true and v + 1 out of range
abbrev reached : Case
reached = wait_for (is 2) (is 2 ∷ []) (is 2 ∷ [])

pub wait_for_goal : Claim (file reached)
unfolding claiming
wait_for_goal = claims reached refl refl (
  record {
    numbered = λ r run n h y.
        record {
          number = λ i. 1;
          from_one = λ i w. lit≤ tt;
          to_m = λ i w. absurd (met r n i y w);
          never_rise = λ i j w w' l. lit≤ tt;
          hold = λ i w. absurd (met r n i y w);
        };
    at_once = λ e r run n h y. y;
  },
  λ r run n h i one l. absurd (omega arith),
)
  where
    met : (r : Run (List ℤ)) (n i : ℕ) → T (p_holds (file reached) (diagram reached) (at r n))
        → Waiting (q_holds (file reached) (diagram reached) 0) r n i → ⊥
    met r n i y w = T_not (q_holds (file reached) (diagram reached) 0 (at r n)) (w.unmet n (le_refl n) w.from) y

-- ---- chain
-- v = 0 may idle for ever: transition 0 is not just, transition 1 disabled
abbrev idling : Case
idling = chain (is 0) (is 2) ((true ∷ []) ∷ []) []

pub chain_q : Claim (file idling) → ⊥
unfolding claiming
chain_q = refuted idling refl (λ c.
    let run = idle_run (file idling) (diagram idling) (v 0) (state (lit≤ tt)) in
    (c.0.eventual (λ n. v 0) run just 0 tt).1)
  where
    just : Just (system_of (file idling) (diagram idling)) (λ n. v 0)
    just zero h y n = absurd y
    just (suc zero) h y n = (0, inl tt)
    just (suc (suc t)) h y n = absurd (omega arith)

-- at v = 2, where p and q hold, no node is true; transition 1 is disabled there too
abbrev outside : Case
outside = chain (is 2) (is 2) (is 0 ∷ []) []

pub chain_node : Claim (file outside) → ⊥
unfolding claiming
chain_node = refuted outside refl (λ c.
    let run = idle_run (file outside) (diagram outside) (v 2) (state (lit≤ tt)) in
    let x = c.0.bounded 1 (lit≤ tt) (λ n. v 2) run just 0 tt in
    none x.0 x.1.below x.1.holds)
  where
    just : KJust (system_of (file outside) (diagram outside)) 1 (λ n. v 2)
    just zero h y n = absurd y
    just (suc zero) h y n = (0, lit< tt, inl tt)
    just (suc (suc t)) h y n = absurd (omega arith)

    none : (r : ℕ) → r < 1 → T (node_holds (file outside) (diagram outside) r (v 2)) → ⊥
    none zero l y = y
    none (suc r) l y = omega arith

-- node 1 is v = 0
abbrev lowest : Case
lowest = chain (is 2) (is 2) (is 2 ∷ is 0 ∷ []) (double 1 1 0 ∷ [])

pub chain_range : Claim (file lowest) → ⊥
unfolding claiming
chain_range = refuted lowest refl (λ c.
    let run = state_run (file lowest) (diagram lowest) (v 0) (state (lit≤ tt)) in
    c.1 (finite (v 0) []) run 0 (lit< tt) 1 (lit≤ tt) (lit< tt) tt 1 (lit< tt) tt)

-- p, q and the goal are v = 2
abbrev there : Case
there = chain (is 2) (is 2) (is 2 ∷ []) []

pub chain_goal : Claim (file there)
unfolding claiming
chain_goal = claims there refl refl (
  record {
    bounded = λ k one σ run just n y. (
      0,
      record { below = lit< tt; holds = y; lowest = λ i l. absurd (omega arith) },
      (0, zero-le, rw (add-zero n) y),
    );
    eventual = λ σ run just n y. (0, rw (add-zero n) y);
  },
  λ r run n h i one l. absurd (omega arith),
)
