-- Where the truths of a diagram stand: each holds where the expression there does.
--     start_at, node_at, p_at, q_at_lem     the start, a node, p, a node's q
--     q_only                            every node's q is the first, where there is one q (C8.9)
-- Assumes nothing.
use mathlib.Core.Path.{◌≡◌, refl}
use mathlib.Core.List.{List}
use Prim.Native.Nat.{ℕ}
use lib.IntN.{ℤ}
use lib.ListN.{get_or}
use mathlib.Core.Bool.{false}
use Rattle.shapes.specs.Property.{property_of}
use Rattle.expressions.specs.Expression.{holds_of}
use Rattle.diagrams.specs.declared.Diagram.{Diagram}
use Rattle.diagrams.specs.Truth.{start_holds, node_holds, claimed_at, p_holds, q_number, q_at, q_holds}

module _ (file : List ℕ) (g : Diagram) (state : List ℤ) where
  pub start_at : start_holds file g state ≡ holds_of file g.start state
  unfolding start_holds
  start_at = refl

  pub node_at : (n : ℕ) → node_holds file g n state ≡ holds_of file (get_or g.assertions n 0) state
  unfolding node_holds
  node_at n = refl

  pub p_at : p_holds file g state ≡ holds_of file (claimed_at file g 0) state
  unfolding p_holds
  p_at = refl

  pub q_at_lem : (i : ℕ) → q_holds file g i state ≡ holds_of file (q_at file g i) state
  unfolding q_holds
  q_at_lem i = refl

  pub q_only : (property_of g.claim).phased ≡ false → (i : ℕ) → q_holds file g i state ≡ q_holds file g 0 state
  unfolding q_holds q_at q_number
  q_only e i = rw e refl
