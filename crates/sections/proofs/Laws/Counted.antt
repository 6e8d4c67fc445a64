-- What each section that was counted holds.
--     variables_limit, transitions_limit, nodes_limit, edges_limit             no more items than it may
--     variables_through, transitions_through, nodes_through, edges_through     what is carried past each item is carried past the section
--     transitions_reach, nodes_reach                  each transition and each node, with what was carried to it
--     variables_end, edges_end                        where sections of one record an item end
--     variable_range                                  a variable's range is not empty
-- Assumes nothing.
use mathlib.Core.Path.{◌≡◌, sym, subst}
use mathlib.Core.Bool.{true, ◌&&◌, and-eq-true_iff}
use mathlib.Core.List.{List}
use Prim.Native.Nat.{ℕ, ◌+◌, ◌*◌, ◌<◌, ◌≤◌}
use native.Mathlib.Omega.{arith}
use lib.Signed.{le_z, ◌≤ℤ◌}
use Rattle.std.specs.declared.result.Result.TheVariants.{Ok}
use Rattle.integers.proofs.Laws.Parts.{parts_≤, le_z_true}
use Rattle.records.specs.Record.{value_b, value_c, kind_is, zeros_of}
use Rattle.sections.specs.Section.{items, no_fields, variable_fields, transition_fields, variables_of, transition_of, transitions_of, node_of, nodes_of, edge_of, edges_of}
use Rattle.sections.proofs.Laws.Section.{Reached, items_most, items_single, items_through, items_reach, single_nth, edge_opens}

-- ---- variables
module _ (file : List ℕ) (m end : ℕ) (is : variables_of file ≡ Ok (items m end)) where
  pub variables_limit : m ≤ 12
  unfolding variables_of
  variables_limit = items_most _ _ _ _ _ _ 12 0 _ is

  pub variables_through : (P : ℕ → Type 0) → ((i : ℕ) → kind_is file 0x01 i ≡ true → P i → P (i + 1)) → P 0 → P end
  unfolding variables_of
  variables_through P step =
      items_through file 0x01 (variable_fields file) (λ at. Ok (at + 1)) P (λ i x k e a. let z : i + 1 ≡ x = cc in subst P z (step i k a))
      m end 12 0 0 is

  pub variables_end : end ≡ m
  unfolding variables_of
  variables_end =
      let z = items_single file 0x01 (variable_fields file) (λ at. Ok (at + 1)) (λ i x q. cc) m end 12 0 0 is in
      omega arith

  variable_right : (v : ℕ) → v < m → variable_fields file v ≡ true
  unfolding variables_of
  variable_right v l =
      let n = (single_nth file 0x01 (variable_fields file) (λ at. Ok (at + 1)) (λ i e q. cc) m end 12 0 is v l).0 in
      let z : 0 + v ≡ v = omega arith in
      rw z at n

  pub variable_range : (v : ℕ) → v < m → value_b file v ≤ℤ value_c file v
  unfolding variable_fields
  variable_range v l =
      let z = (and-eq-true_iff (zeros_of file (8 * v + 1) 1 && zeros_of file (8 * v + 6) 2) (le_z (value_b file v) (value_c file v))).0 (variable_right v l) in
      parts_≤ (value_b file v) (value_c file v) (le_z_true (value_b file v) (value_c file v) z.1)

-- ---- transitions
module _ (file : List ℕ) (vars at m end : ℕ) (is : transitions_of file vars at ≡ Ok (items m end)) where
  pub transitions_limit : m ≤ 32
  unfolding transitions_of
  transitions_limit = items_most _ _ _ _ _ _ 32 0 _ is

  pub transitions_through : (P : ℕ → Type 0) → ((i x : ℕ) → kind_is file 0x03 i ≡ true → transition_of file vars i ≡ Ok x → P i → P x) → P at → P end
  unfolding transitions_of
  transitions_through P step = items_through _ _ _ (transition_of file vars) P step _ _ 32 0 _ is

  pub transitions_reach : (P : ℕ → Type 0) (step : (i x : ℕ) → kind_is file 0x03 i ≡ true → transition_of file vars i ≡ Ok x → P i → P x) → P at
      → (i : ℕ) → i < m → Reached file 0x03 (transition_fields file) (transition_of file vars) P step i at
  unfolding transitions_of
  transitions_reach P step p i l = items_reach _ _ _ (transition_of file vars) P step _ _ 32 0 _ is p i (omega arith)

-- ---- nodes
module _ (file : List ℕ) (vars ranks most at m end : ℕ) (is : nodes_of file vars ranks most at ≡ Ok (items m end)) where
  pub nodes_limit : m ≤ most
  unfolding nodes_of
  nodes_limit = omega (arith, items_most _ _ _ _ _ _ most 0 _ is)

  pub nodes_through : (P : ℕ → Type 0) → ((i x : ℕ) → kind_is file 0x06 i ≡ true → node_of file vars ranks i ≡ Ok x → P i → P x) → P at → P end
  unfolding nodes_of
  nodes_through P step = items_through _ _ _ (node_of file vars ranks) P step _ _ most 0 _ is

  pub nodes_reach : (P : ℕ → Type 0) (step : (i x : ℕ) → kind_is file 0x06 i ≡ true → node_of file vars ranks i ≡ Ok x → P i → P x) → P at
      → (i : ℕ) → i < m → Reached file 0x06 (no_fields file) (node_of file vars ranks) P step i at
  unfolding nodes_of
  nodes_reach P step p i l = items_reach _ _ _ (node_of file vars ranks) P step _ _ most 0 _ is p i (omega arith)

-- ---- edges
module _ (file : List ℕ) (transitions nodes first m end : ℕ) (is : edges_of file transitions nodes first ≡ Ok (items m end)) where
  pub edges_limit : m ≤ 512
  unfolding edges_of
  edges_limit = items_most _ _ _ _ _ _ 512 0 _ is

  pub edges_through : (P : ℕ → Type 0) → ((i : ℕ) → kind_is file 0x07 i ≡ true → P i → P (i + 1)) → P first → P end
  unfolding edges_of
  edges_through P step =
      items_through _ _ _ (edge_of file first) P (λ i x k e a. subst P (sym (edge_opens file first i x e).1) (step i k a)) _ _ 512 0 _ is

  pub edges_end : end ≡ first + m
  unfolding edges_of
  edges_end = omega (arith, items_single _ _ _ (edge_of file first) (λ i x q. (edge_opens file first i x q).1) _ _ 512 0 _ is)
