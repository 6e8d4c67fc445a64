-- Which conditions are listed.
--     opening_in, cover_in, range_in_lem, step_in                  the opening, the covers, and those of each node from the row's first on (C8.4 to C8.6)
--     enabling_in                                              and of its double transition, if it has one (C8.6)
--     start_in, entry_in                                       the opening, by the row
--     covered_in, goal_in                                      the cover of each node, where each is covered; that of node 0 always
-- Assumes nothing.
use mathlib.Core.Path.{◌≡◌, refl, subst}
use mathlib.Core.Bool.{Bool, true, false, cond}
use mathlib.Core.List.Memᴰ
use mathlib.Core.List.{List, [], ◌∷◌, Memᴰ}
use Prim.Native.Nat.{ℕ, ◌-◌, ◌≤◌, ◌<◌}
use native.Mathlib.Omega.{arith}
use Rattle.shapes.specs.Property.{property_of}
use Rattle.diagrams.specs.declared.Diagram.{Diagram}
use Rattle.diagrams.specs.Diagram.{Loaded}
use Rattle.diagrams.proofs.Laws.Diagram.{promised}
use Rattle.conditions.specs.Edges.{is_double}
use Rattle.conditions.specs.Condition.{each, moves_of, opening_of, covered_of, conditions_of, Listed}
use Rattle.conditions.specs.declared.Condition.{Condition}
use Rattle.conditions.specs.declared.Condition.TheVariants.{Start, Entry, Cover, Range, Step, Enabling}
use Rattle.conditions.proofs.Laws.Each.{in_each}

-- the opening and the covers, by the row
module _ (g : Diagram) where
  opening_start : (property_of g.claim).entry ≡ false → opening_of g ≡ Start
  unfolding opening_of
  opening_start e = rw e

  opening_entry : (property_of g.claim).entry ≡ true → opening_of g ≡ Entry
  unfolding opening_of
  opening_entry e = rw e

  covered_all : (property_of g.claim).covered ≡ true → covered_of g ≡ g.nodes
  unfolding covered_of
  covered_all e = rw e

  covered_some : 1 ≤ g.nodes → 0 < covered_of g
  unfolding covered_of
  covered_some l = by (property_of g.claim).covered
    where
      by : (b : Bool) → 0 < cond b g.nodes 1
      by true = l
      by false = omega arith

module _ (file : List ℕ) (g : Diagram) where
  abbrev from : ℕ
  from = (property_of g.claim).from

  pub opening_in : Listed file g (opening_of g)
  unfolding conditions_of
  opening_in = Memᴰ.head refl

  pub cover_in : (n : ℕ) → n < covered_of g → Listed file g (Cover n)
  unfolding conditions_of
  cover_in n l =
      Memᴰ.tail (Memᴰ.append_left (each (λ k. each (moves_of file g k) g.transitions 0) (g.nodes - from) from)
      (in_each (λ k. Cover k ∷ []) (covered_of g) 0 n (omega arith) (omega arith) (Memᴰ.head refl)))

  pub start_in : (property_of g.claim).entry ≡ false → Listed file g Start
  start_in e = subst (Listed file g) (opening_start g e) opening_in

  pub entry_in : (property_of g.claim).entry ≡ true → Listed file g Entry
  entry_in e = subst (Listed file g) (opening_entry g e) opening_in

  pub covered_in : (property_of g.claim).covered ≡ true → (n : ℕ) → n < g.nodes → Listed file g (Cover n)
  covered_in e n l = cover_in n (rw (covered_all g e) l)

  pub goal_in : Loaded file g → Listed file g (Cover 0)
  goal_in r = cover_in 0 (covered_some g (promised file g r).nodes.0)

  module _ (n t : ℕ) (above : from ≤ n) (below : n < g.nodes) (there : t < g.transitions) where
    move_in : (c : Condition) → Memᴰ c (moves_of file g n t) → Listed file g c
    unfolding conditions_of
    move_in c m =
        Memᴰ.tail (Memᴰ.append_right (each (λ k. Cover k ∷ []) (covered_of g) 0)
        (in_each (λ k. each (moves_of file g k) g.transitions 0) (g.nodes - from) from n above (omega arith)
        (in_each (moves_of file g n) g.transitions 0 t (omega arith) (omega arith) m)))

    pub range_in_lem : Listed file g (Range n t)
    unfolding moves_of
    range_in_lem = move_in (Range n t) (Memᴰ.head refl)

    pub step_in : Listed file g (Step n t)
    unfolding moves_of
    step_in = move_in (Step n t) (Memᴰ.tail (Memᴰ.head refl))

    pub enabling_in : is_double file g n t ≡ true → Listed file g (Enabling n t)
    unfolding moves_of
    enabling_in e = move_in (Enabling n t) (Memᴰ.tail (Memᴰ.tail (rw e (Memᴰ.head refl))))
