-- A table of marks as it is filled, edge by edge: which nodes, or which pairs, the edges tried so far mark.
--     marked_none, marked_kept                     no edge is tried: none is marked, or what is kept
--     marked_hit, marked_miss, marked_end          an edge is carried, or not; all are tried
-- Assumes nothing.
use mathlib.Core.Path.{◌≡◌, refl, sym, ap, subst, ◌∙◌}
use mathlib.Core.Bool.{Bool, true, false, cond, ◌&&◌, ◌||◌, or-false}
use mathlib.Core.List.{List}
use Prim.Native.Nat.{ℕ, ◌+◌, ◌≤◌, ◌<◌}
use native.Mathlib.Numerals.{add-one}
use native.Mathlib.Omega.{arith}
use borrow.Author.Tests.{eqb-true, eqb-false, eq-eqb, ne_eqb}
use lib.ListN.{length, get_or, set, replicate, length-set, length-replicate, get_or-replicate}
use lib.Seq.{get_or-set_same, get_or-set_other, ext_get_or}
use lib.Dec.{eqb}
use Rattle.truths.specs.Table.{tabulate}
use Rattle.truths.specs.Search.{any}
use Rattle.truths.proofs.Laws.Table.{length_tabulate, get_d_tabulate}
use Rattle.truths.proofs.Laws.Any.{any_none, any_last}
use Rattle.testing.proofs.Laws.Targets.{is_marked}

pub eqb_swap : (a b : ℕ) → eqb a b ≡ eqb b a
eqb_swap a b = by (eqb b a) refl
  where
    by : (t : Bool) → eqb b a ≡ t → eqb a b ≡ t
    by true is = eq-eqb a b (sym (eqb-true b a is))
    by false is = ne_eqb a b (λ e. eqb-false b a is (sym e))

set_mark : (l : List Bool) (i j : ℕ) (v : Bool) → i < length l → get_or (set l i v) j false ≡ cond (eqb j i) v (get_or l j false)
set_mark l i j v h = by (eqb j i) refl
  where
    by : (b : Bool) → eqb j i ≡ b → get_or (set l i v) j false ≡ cond b v (get_or l j false)
    by true is = subst (λ (k : ℕ). get_or (set l i v) k false ≡ v) (sym (eqb-true j i is)) (get_or-set_same l i v false h)
    by false is = get_or-set_other l i j v false (eqb-false j i is)

mark_first : (b keep : Bool) → cond b keep false ≡ ((keep && b) || false)
mark_first true true = refl
mark_first true false = refl
mark_first false true = refl
mark_first false false = refl

mark_more : (b a r : Bool) → cond b true (a || r) ≡ (a || (r || b))
mark_more true true r = refl
mark_more true false true = refl
mark_more true false false = refl
mark_more false true r = refl
mark_more false false true = refl
mark_more false false false = refl

module _ (size : ℕ) (keep : Bool) (n edges edge : ℕ) (carried : ℕ → Bool) (to : ℕ → ℕ) where
  -- the marks that the first e edges make
  pub record Marked (marks : List Bool) (e : ℕ) : Type 0 where
    pub passed : e ≤ edges
    pub long : length marks ≡ size
    pub each : (j : ℕ) → j < size → get_or marks j false ≡ is_marked keep n e edge carried to j

  module _ {marks : List Bool} {e : ℕ} (k : Marked marks e) where
    pub marked_end : edges ≤ e → marks ≡ tabulate (is_marked keep n edges edge carried to) size 0
    marked_end l =
        let same : e ≡ edges = omega (arith, k.passed) in
        let mark = is_marked keep n edges edge carried to in
        ext_get_or false marks (tabulate mark size 0) (k.long ∙ sym (length_tabulate mark size 0))
        (λ j m. entry same j (subst (λ (s : ℕ). j < s) k.long m))
      where
        entry : e ≡ edges → (j : ℕ) → j < size → get_or marks j false ≡ get_or (tabulate (is_marked keep n edges edge carried to) size 0) j false
        entry same j m =
            k.each j m
            ∙ ap (λ (c : ℕ). is_marked keep n c edge carried to j) same
            ∙ ap (is_marked keep n edges edge carried to) (omega arith)
            ∙ sym (get_d_tabulate (is_marked keep n edges edge carried to) false size 0 j m)

    module _ (l : e < edges) where
      -- the next edge is carried: its target is marked
      pub marked_hit : {at : ℕ} → at ≡ to (edge + e) → to (edge + e) < size → carried (edge + e) ≡ true → Marked (set marks at true) (e + 1)
      marked_hit {at} is h c =
          record {
            passed = omega arith;
            long = length-set marks at true ∙ k.long;
            each = λ j m.
                set_mark marks at j true (omega (arith, is, h, k.long))
                ∙ ap (cond (eqb j at) true) (k.each j m)
                ∙ mark_more (eqb j at) (keep && eqb j n) (any (λ x. carried x && eqb (to x) j) e edge)
                ∙ ap (λ (b : Bool). (keep && eqb j n) || b) (next j);
          }
        where
          next : (j : ℕ) → (any (λ x. carried x && eqb (to x) j) e edge || eqb j at) ≡ any (λ x. carried x && eqb (to x) j) (e + 1) edge
          next j = rw (add-one, any_last (λ x. carried x && eqb (to x) j) e edge, c, ← is, eqb_swap j at)

      pub marked_miss : carried (edge + e) ≡ false → Marked marks (e + 1)
      marked_miss c =
          record {
            passed = omega arith;
            long = k.long;
            each = λ j m.
                k.each j m
                ∙ ap (λ (b : Bool). (keep && eqb j n) || b) (sym (or-false (any (λ x. carried x && eqb (to x) j) e edge)) ∙ next j);
          }
        where
          next : (j : ℕ) → (any (λ x. carried x && eqb (to x) j) e edge || false) ≡ any (λ x. carried x && eqb (to x) j) (e + 1) edge
          next j = rw (add-one, any_last (λ x. carried x && eqb (to x) j) e edge, c)

-- no edge has passed: at most what is kept is marked
module _ (size n edges edge : ℕ) (carried : ℕ → Bool) (to : ℕ → ℕ) where
  none_yet : (j : ℕ) → any (λ x. carried x && eqb (to x) j) 0 edge ≡ false
  none_yet j = any_none (λ x. carried x && eqb (to x) j) 0 edge (omega arith)

  pub marked_none : Marked size false n edges edge carried to (replicate size false) 0
  marked_none =
      record {
        passed = omega arith;
        long = length-replicate {A = Bool} size false;
        each = λ j m. get_or-replicate {A = Bool} size j false false m ∙ sym (none_yet j);
      }

  pub marked_kept : (keep : Bool) → n < size → Marked size keep n edges edge carried to (set (replicate size false) n keep) 0
  marked_kept keep l =
      record {
        passed = omega arith;
        long = length-set (replicate size false) n keep ∙ marked_none.long;
        each = λ j m.
            set_mark (replicate size false) n j keep (omega (arith, marked_none.long))
            ∙ ap (cond (eqb j n) keep) (marked_none.each j m ∙ none_yet j)
            ∙ mark_first (eqb j n) keep
            ∙ ap (λ (b : Bool). (keep && eqb j n) || b) (sym (none_yet j));
      }
