-- Laws of tables.
--     tabulate_none, tabulate_more                    a table of no entry, and of one more
--     length_tabulate, get_d_tabulate, tabulate_at     how many entries a table has, and each; from number 0 on
--     table_tabulate                                  a table whose first n entries are given, as one that is given whole
--     length_table, table_at, table_beyond            how many entries it has, and each
--     table_none, table_more, table_rest              such a table as it is filled: none are; one more is; the entries left are what stands there already
-- Assumes nothing.
use mathlib.Core.Path.{◌≡◌, refl, sym, ap, ap₂, subst, ◌∙◌}
use mathlib.Core.Bool.{Bool, true, false, cond}
use mathlib.Core.List.{List, [], ◌∷◌}
use Prim.Native.Nat.{ℕ, zero, suc, ◌+◌, ◌<◌, ◌≤◌}
use native.Mathlib.Omega.{arith}
use borrow.Author.Tests.{eqb-true, eqb-false, ltb-true, ltb-false, lt-ltb, le-ltb}
use lib.Dec.{eqb, ltb}
use lib.ListN.{length, get_or, set, replicate, length-set, get_or-eq_default}
use lib.Seq.{get_or-set_same, get_or-set_other, ext_get_or}
use Rattle.truths.specs.Table.{tabulate, table_of}

module _ {A : Type 0} (f : ℕ → A) where
  pub tabulate_none : (at : ℕ) → tabulate f 0 at ≡ []
  unfolding tabulate
  tabulate_none at = refl

  pub tabulate_more : (n at : ℕ) → tabulate f (suc n) at ≡ f at ∷ tabulate f n (at + 1)
  unfolding tabulate
  tabulate_more n at = refl

  pub length_tabulate : (n at : ℕ) → length (tabulate f n at) ≡ n
  unfolding tabulate
  length_tabulate zero at = refl
  length_tabulate (suc n) at = ap suc (length_tabulate n (at + 1))

  pub get_d_tabulate : (z : A) (n at i : ℕ) → i < n → get_or (tabulate f n at) i z ≡ f (at + i)
  unfolding tabulate
  get_d_tabulate z zero at i l = absurd (omega arith)
  get_d_tabulate z (suc n) at zero l = ap f (omega arith)
  get_d_tabulate z (suc n) at (suc i) l = get_d_tabulate z n (at + 1) i (omega arith) ∙ ap f (omega arith)

  pub tabulate_at : (z : A) (n i : ℕ) → i < n → get_or (tabulate f n 0) i z ≡ f i
  tabulate_at z n i l = get_d_tabulate z n 0 i l ∙ ap f (omega arith)

-- ---- a table whose first n entries are given
module _ {A : Type 0} (size : ℕ) (z : A) (f : ℕ → A) where
  abbrev entry : ℕ → ℕ → A
  entry n i = cond (ltb i n) (f i) z

  pub table_tabulate : (n : ℕ) → table_of size z f n ≡ tabulate (λ i. cond (ltb i n) (f i) z) size 0
  unfolding table_of
  table_tabulate n = refl

  pub length_table : (n : ℕ) → length (table_of size z f n) ≡ size
  length_table n = rw table_tabulate (length_tabulate (entry n) size 0)

  table_entry : (n i : ℕ) → i < size → get_or (table_of size z f n) i z ≡ entry n i
  table_entry n i l = rw table_tabulate (tabulate_at (entry n) z size i l)

  pub table_at : (n i : ℕ) → i < size → i < n → get_or (table_of size z f n) i z ≡ f i
  table_at n i l m = table_entry n i l ∙ rw (lt-ltb _ _ m)

  pub table_beyond : (n i : ℕ) → n ≤ i → get_or (table_of size z f n) i z ≡ z
  table_beyond n i m = within_or_past (ltb i size) refl
    where
      within_or_past : (b : Bool) → ltb i size ≡ b → get_or (table_of size z f n) i z ≡ z
      within_or_past true is = table_entry n i (ltb-true i size is) ∙ rw (le-ltb _ _ m)
      within_or_past false is = get_or-eq_default (table_of size z f n) z (rw (length_table n) (ltb-false i size is))

  -- ---- as it is filled
  tabulate_z : (n at : ℕ) → tabulate (entry 0) n at ≡ replicate n z
  unfolding tabulate
  tabulate_z zero at = refl
  tabulate_z (suc n) at = ap₂ ◌∷◌ (rw (le-ltb at 0 (omega arith))) (tabulate_z n (at + 1))

  pub table_none : table_of size z f 0 ≡ replicate size z
  table_none = table_tabulate 0 ∙ tabulate_z size 0

  -- a list of as many entries is the table where each entry is
  table_is : (table : List A) (n : ℕ) → length table ≡ size → ((i : ℕ) → i < size → get_or table i z ≡ entry n i) → table ≡ table_of size z f n
  table_is table n long each =
      ext_get_or z table (table_of size z f n) (long ∙ sym (length_table n))
      (λ i h. let l = subst (λ (s : ℕ). i < s) long h in each i l ∙ sym (table_entry n i l))

  module _ (n : ℕ) (l : n < size) where
    filled_at : (i : ℕ) → i < size → (b c : Bool) → eqb i n ≡ b → ltb i n ≡ c → get_or (set (table_of size z f n) n (f n)) i z ≡ entry (n + 1) i
    filled_at i h true c is it =
        rw (eqb-true i n is, lt-ltb n (n + 1) (omega arith)) (get_or-set_same (table_of size z f n) n (f n) z (rw (length_table n) l))
    filled_at i h false true is it =
        let m : i < n = ltb-true i n it in
        get_or-set_other (table_of size z f n) n i (f n) z (eqb-false i n is) ∙ table_entry n i h ∙ rw (it, lt-ltb i (n + 1) (omega arith))
    filled_at i h false false is it =
        let m : n ≤ i = ltb-false i n it in
        let ne = eqb-false i n is in
        get_or-set_other (table_of size z f n) n i (f n) z ne ∙ table_entry n i h ∙ rw (it, le-ltb i (n + 1) (omega arith))

    pub table_more : set (table_of size z f n) n (f n) ≡ table_of size z f (n + 1)
    table_more =
        table_is (set (table_of size z f n) n (f n)) (n + 1) (length-set (table_of size z f n) n (f n) ∙ length_table n)
        (λ i h. filled_at i h (eqb i n) (ltb i n) refl refl)

  pub table_rest : (n m : ℕ) → n ≤ m → ((i : ℕ) → n ≤ i → f i ≡ z) → table_of size z f n ≡ table_of size z f m
  table_rest n m l rest =
      table_is (table_of size z f n) m (length_table n) (λ i h. table_entry n i h ∙ same i (ltb i n) (ltb i m) refl refl)
    where
      same : (i : ℕ) (b c : Bool) → ltb i n ≡ b → ltb i m ≡ c → entry n i ≡ entry m i
      same i true true is it = rw (is, it)
      same i true false is it =
          let p = ltb-true i n is in
          let q = ltb-false i m it in
          absurd (omega arith)
      same i false true is it = rw (is, it) (sym (rest i (ltb-false i n is)))
      same i false false is it = rw (is, it)
