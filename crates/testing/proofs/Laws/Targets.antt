-- Laws of the targets of a condition.
--     chosen_last, chosen_most, chosen_each     the places chosen: one node more, how many they are, what is true of each
--     some_chosen                               one of the places chosen holds where a marked node does
--     marked_some                               a marked node holds where the node that may be kept does, or a target of an edge carried
--     some_node_lem, some_reached                   one of the places that a test has holds where one of the nodes that its condition names does
-- Assumes nothing.
use mathlib.Core.Path.{◌≡◌, refl, sym, ap, ap₂, ◌∙◌}
use mathlib.Core.Logic.{⊎_elim}
use mathlib.Core.Bool.{Bool, true, false, cond, ◌&&◌, ◌||◌, and-eq-true_iff}
use mathlib.Core.List.{List, [], ◌∷◌, ◌++◌}
use Prim.Native.Nat.{ℕ, zero, suc, ◌+◌, ◌≤◌, ◌<◌}
use native.Mathlib.Omega.{arith}
use borrow.Author.Tests.{eq-eqb, eqb-true}
use lib.ListN.{length, get_or, replicate, get_or-replicate}
use lib.Dec.{eqb}
use lib.IntN.{ℤ}
use Rattle.truths.specs.Search.{any}
use Rattle.truths.proofs.Laws.Any.{any_none, any_first, any_some, any_at, any_below, any_same}
use Rattle.truths.proofs.Laws.Truth.{same_truth, or_first, or_second, or_cases}
use Rattle.truths.proofs.Laws.Table.{tabulate_at}
use Rattle.expressions.specs.Expression.{holds_of}
use Rattle.diagrams.specs.declared.Diagram.{Diagram}
use Rattle.diagrams.specs.Diagram.{Loaded, edge_of}
use Rattle.diagrams.specs.Truth.{node_holds}
use Rattle.diagrams.proofs.Laws.Diagram.{promised}
use Rattle.diagrams.proofs.Laws.Truth.{node_at}
use Rattle.conditions.specs.Edges.{carries}
use Rattle.testing.specs.Holding.{some_node, some_target}
use Rattle.testing.specs.Testing.{marks_of, chosen_from, some_holds}

-- ---- the places chosen
module _ (marks : List Bool) (nodes : List ℕ) where
  pub chosen_last : (n at : ℕ)
      → chosen_from marks nodes (suc n) at ≡ chosen_from marks nodes n at ++ cond (get_or marks (at + n) false) (get_or nodes (at + n) 0 ∷ []) []
  unfolding chosen_from
  chosen_last zero at = let z : at + 0 ≡ at = omega arith in rw z
  chosen_last (suc n) at =
      let z : at + suc n ≡ at + 1 + n = omega arith in
      rw z (go (get_or marks at false) (get_or nodes at 0) _ _ _ (chosen_last n (at + 1)))
    where
      go : (b : Bool) (x : ℕ) (l m t : List ℕ) → l ≡ m ++ t → cond b (x ∷ l) l ≡ cond b (x ∷ m) m ++ t
      go true x l m t e = ap (λ (k : List ℕ). x ∷ k) e
      go false x l m t e = e

  pub chosen_most : (n at : ℕ) → length (chosen_from marks nodes n at) ≤ n
  unfolding chosen_from
  chosen_most zero at = omega arith
  chosen_most (suc n) at = go (get_or marks at false) (get_or nodes at 0) (chosen_from marks nodes n (at + 1)) (chosen_most n (at + 1))
    where
      go : (b : Bool) (x : ℕ) (l : List ℕ) → length l ≤ n → length (cond b (x ∷ l) l) ≤ suc n
      go true x l m = omega arith
      go false x l m = omega arith

  -- what is true of each node's assertion is true of each place chosen
  module _ (P : ℕ → Type 0) where
    pub chosen_each : (n at : ℕ) → ((j : ℕ) → at ≤ j → j < at + n → P (get_or nodes j 0)) → (i : ℕ) → i < length (chosen_from marks nodes n at)
        → P (get_or (chosen_from marks nodes n at) i 0)
    unfolding chosen_from
    chosen_each zero at p i l = absurd (omega arith)
    chosen_each (suc n) at p i l =
        go (get_or marks at false) (get_or nodes at 0) (chosen_from marks nodes n (at + 1)) i l (p at (omega arith) (omega arith))
        (chosen_each n (at + 1) (λ j a b. p j (omega arith) (omega arith)))
      where
        go : (b : Bool) (x : ℕ) (m : List ℕ) (i : ℕ) → i < length (cond b (x ∷ m) m) → P x → ((k : ℕ) → k < length m → P (get_or m k 0))
            → P (get_or (cond b (x ∷ m) m) i 0)
        go true x m zero l p h = p
        go true x m (suc i) l p h = h i (omega arith)
        go false x m i l p h = h i l

module _ (file : List ℕ) (state : List ℤ) where
  some_one : (b : Bool) (x : ℕ) (l : List ℕ) (rest : Bool) → some_holds file l state ≡ rest
      → some_holds file (cond b (x ∷ l) l) state ≡ ((b && holds_of file x state) || rest)
  unfolding some_holds
  some_one true x l rest e = ap (λ (r : Bool). holds_of file x state || r) e
  some_one false x l rest e = e

  pub some_chosen : (marks : List Bool) (nodes : List ℕ) (n at : ℕ)
      → some_holds file (chosen_from marks nodes n at) state ≡ any (λ j. get_or marks j false && holds_of file (get_or nodes j 0) state) n at
  unfolding chosen_from some_holds
  some_chosen marks nodes zero at = sym (any_none _ 0 at (omega arith))
  some_chosen marks nodes (suc n) at =
      some_one (get_or marks at false) (get_or nodes at 0) (chosen_from marks nodes n (at + 1)) _ (some_chosen marks nodes n (at + 1))
      ∙ sym (any_first (λ j. get_or marks j false && holds_of file (get_or nodes j 0) state) n at)

-- ---- the nodes marked
module _ (keep : Bool) (n edges edge : ℕ) (carried : ℕ → Bool) (to : ℕ → ℕ) where
  -- node j is the target of an edge carried, or node n, which may be kept
  abbrev is_target : ℕ → Bool
  is_target j = any (λ e. carried e && eqb (to e) j) edges edge

  abbrev pub is_marked : ℕ → Bool
  is_marked j = (keep && eqb j n) || is_target j

  module _ (holds : ℕ → Bool) where
    -- a target of an edge carried holds
    abbrev target_holds : Bool
    target_holds = any (λ e. carried e && holds (to e)) edges edge

    -- a marked node that holds is the one kept, or a target
    kept : (j : ℕ) → holds j ≡ true → (keep && eqb j n) ≡ true → ((keep && holds n) || target_holds) ≡ true
    kept j h e =
        let b = (and-eq-true_iff keep (eqb j n)).0 e in
        let same : j ≡ n = eqb-true j n b.1 in
        or_first (keep && holds n) target_holds ((and-eq-true_iff keep (holds n)).1 (b.0, rw same at h))

    moved : (j : ℕ) → holds j ≡ true → is_target j ≡ true → ((keep && holds n) || target_holds) ≡ true
    moved j h e =
        let s = any_some (λ e. carried e && eqb (to e) j) edges edge e in
        let b = (and-eq-true_iff (carried (edge + s.which)) (eqb (to (edge + s.which)) j)).0 s.passes in
        let same : to (edge + s.which) ≡ j = eqb-true (to (edge + s.which)) j b.1 in
        or_second (keep && holds n) target_holds
        (any_at (λ e. carried e && holds (to e)) edges edge s.which s.below
        ((and-eq-true_iff (carried (edge + s.which)) (holds (to (edge + s.which)))).1 (b.0, rw same h)))

    forth : (j : ℕ) → (is_marked j && holds j) ≡ true → ((keep && holds n) || target_holds) ≡ true
    forth j e =
        let b = (and-eq-true_iff (is_marked j) (holds j)).0 e in
        ⊎_elim (kept j b.1) (moved j b.1) (or_cases (keep && eqb j n) (is_target j) b.0)

    -- and each of these is marked
    module _ (nodes : ℕ) (there : n < nodes) (named : (e : ℕ) → e < edges → to (edge + e) < nodes) where
      stays : (keep && holds n) ≡ true → any (λ j. is_marked j && holds j) nodes 0 ≡ true
      stays e =
          let b = (and-eq-true_iff keep (holds n)).0 e in
          any_below (λ j. is_marked j && holds j) nodes n there
          ((and-eq-true_iff (is_marked n) (holds n)).1
          (or_first (keep && eqb n n) (is_target n) ((and-eq-true_iff keep (eqb n n)).1 (b.0, eq-eqb n n refl)), b.1))

      reach : (j : ℕ) → j < nodes → holds j ≡ true → is_target j ≡ true → any (λ j. is_marked j && holds j) nodes 0 ≡ true
      reach j l h a =
          any_below (λ j. is_marked j && holds j) nodes j l
          ((and-eq-true_iff (is_marked j) (holds j)).1 (or_second (keep && eqb j n) (is_target j) a, h))

      goes : target_holds ≡ true → any (λ j. is_marked j && holds j) nodes 0 ≡ true
      goes e =
          let s = any_some (λ e. carried e && holds (to e)) edges edge e in
          let b = (and-eq-true_iff (carried (edge + s.which)) (holds (to (edge + s.which)))).0 s.passes in
          let j = to (edge + s.which) in
          reach j (named s.which s.below) b.1
          (any_at (λ e. carried e && eqb (to e) j) edges edge s.which s.below
          ((and-eq-true_iff (carried (edge + s.which)) (eqb j j)).1 (b.0, eq-eqb j j refl)))

      pub marked_some : any (λ j. is_marked j && holds j) nodes 0 ≡ ((keep && holds n) || target_holds)
      marked_some =
          same_truth (any (λ j. is_marked j && holds j) nodes 0) ((keep && holds n) || target_holds)
          (λ e. let s = any_some (λ j. is_marked j && holds j) nodes 0 e in forth (0 + s.which) s.passes)
          (λ e. ⊎_elim stays goes (or_cases (keep && holds n) target_holds e))

-- ---- the places that a test has
module _ (file : List ℕ) (g : Diagram) (r : Loaded file g) (state : List ℤ) where
  few : g.nodes ≤ 32
  few = (promised file g r).nodes.1

  -- the assertion of node j, where the table has it
  abbrev listed_holds : ℕ → Bool
  listed_holds j = holds_of file (get_or g.assertions j 0) state

  every : (j : ℕ) → j < g.nodes → (get_or (replicate 32 true) j false && listed_holds j) ≡ node_holds file g j state
  every j l =
      let m = few in
      ap (λ (b : Bool). b && listed_holds j) (get_or-replicate {A = Bool} 32 j true false (omega arith)) ∙ sym (node_at file g state j)

  pub some_node_lem : some_holds file (chosen_from (replicate 32 true) g.assertions g.nodes 0) state ≡ some_node file g state
  unfolding some_node
  some_node_lem =
      some_chosen file state (replicate 32 true) g.assertions g.nodes 0
      ∙ any_same (λ j. get_or (replicate 32 true) j false && listed_holds j) (λ j. node_holds file g j state) g.nodes 0
      (λ i l. every (0 + i) (omega arith))

  module _ (n t : ℕ) (keep : Bool) where
    abbrev marked : ℕ → Bool
    marked = is_marked keep n g.edges 0 (λ e. carries n t (edge_of file g e)) (λ e. (edge_of file g e).to)

    marked_at : (j : ℕ) → j < 32 → get_or (marks_of file g n t keep) j false ≡ marked j
    unfolding marks_of
    marked_at j l = tabulate_at marked false 32 j l

    marked_holds : (j : ℕ) → j < g.nodes → (get_or (marks_of file g n t keep) j false && listed_holds j) ≡ (marked j && node_holds file g j state)
    marked_holds j l = let m = few in ap₂ ◌&&◌ (marked_at j (omega arith)) (sym (node_at file g state j))

    target_there : (e : ℕ) → e < g.edges → (edge_of file g (0 + e)).to < g.nodes
    target_there e k = let z : 0 + e ≡ e = omega arith in rw z ((promised file g r).edge e k).to

    pub some_reached : n < g.nodes → some_holds file (chosen_from (marks_of file g n t keep) g.assertions g.nodes 0) state
        ≡ ((keep && node_holds file g n state) || some_target file g n t state)
    unfolding some_target
    some_reached l =
        some_chosen file state (marks_of file g n t keep) g.assertions g.nodes 0
        ∙ any_same (λ j. get_or (marks_of file g n t keep) j false && listed_holds j) (λ j. marked j && node_holds file g j state) g.nodes 0
        (λ i m. marked_holds (0 + i) (omega arith))
        ∙ marked_some keep n g.edges 0 (λ e. carries n t (edge_of file g e)) (λ e. (edge_of file g e).to) (λ j. node_holds file g j state) g.nodes l
        target_there
