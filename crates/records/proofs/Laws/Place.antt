-- Laws of the table of places.
--     length_places     it has 32 entries
--     places_nth        entry i is where part i stands
--     filled_begins, filled_more, filled_done, filled_refused     the table as it is filled, each entry where the parts before it end
-- Assumes nothing.
use mathlib.Core.Path.{◌≡◌, refl, sym, ap, subst, ◌∙◌}
use mathlib.Core.List.{List}
use Prim.Native.Nat.{ℕ, zero, suc, ◌+◌, ◌-◌, ◌<◌, ◌≤◌}
use native.Mathlib.Numerals.{add-one}
use native.Mathlib.Omega.{arith}
use lib.ListN.{length, get_or, set, replicate}
use Rattle.std.specs.declared.result.Result.TheVariants.{Ok, Err}
use Rattle.shapes.specs.declared.Refusal.{Refusal}
use Rattle.shapes.specs.Refusal.{and_then}
use Rattle.records.specs.Walk.{Walked, in_sequence}
use Rattle.records.specs.Place.{place_of, places_of}
use Rattle.truths.proofs.Laws.Table.{length_table, table_at, table_none, table_more, table_rest}

-- where part i stands
abbrev standing : (ℕ → Walked) → ℕ → ℕ → ℕ
standing part first i = place_of (in_sequence part i first)

module _ (part : ℕ → Walked) (n first : ℕ) where
  pub length_places : length (places_of part n first) ≡ 32
  unfolding places_of
  length_places = length_table 32 0 (standing part first) n

  pub places_nth : (i : ℕ) → i < 32 → i < n → get_or (places_of part n first) i 0 ≡ place_of (in_sequence part i first)
  unfolding places_of
  places_nth i l m = table_at 32 0 (standing part first) n i l m

-- ---- as it is filled
module _ (part : ℕ → Walked) where
  -- the last of n + 1 parts follows the n before it
  then_end : (w : Walked) → and_then w (λ x. Ok x) ≡ w
  then_end (Ok x) = refl
  then_end (Err refusal) = refl

  sequence_last : (n at : ℕ) → in_sequence part (suc n) at ≡ and_then (in_sequence part n at) part
  unfolding in_sequence
  sequence_last zero at = then_end (part at)
  sequence_last (suc n) at = behind (sequence_last n) (part at)
    where
      behind : ((x : ℕ) → in_sequence part (suc n) x ≡ and_then (in_sequence part n x) part) → (w : Walked)
          → and_then w (in_sequence part (suc n)) ≡ and_then (and_then w (in_sequence part n)) part
      behind h (Ok x) = h x
      behind h (Err refusal) = refl

  -- a refusal stands however many parts follow
  sequence_stays : (n at : ℕ) (refusal : Refusal) (m : ℕ) → in_sequence part n at ≡ Err refusal → in_sequence part (n + m) at ≡ Err refusal
  sequence_stays n at refusal zero e = let z : n + 0 ≡ n = omega arith in rw z e
  sequence_stays n at refusal (suc m) e =
      let z : n + suc m ≡ suc (n + m) = omega arith in
      rw z (sequence_last (n + m) at ∙ rw (sequence_stays n at refusal m e))

  module _ (n first : ℕ) where
    -- i entries are filled, and part i stands at `next`
    pub record Filled (table : List ℕ) (i next : ℕ) : Type 0 where
      pub room : n ≤ 32
      pub most : i ≤ n
      pub reached : in_sequence part i first ≡ Ok next
      pub places : table ≡ places_of part i first

    pub filled_begins : n ≤ 32 → Filled (replicate 32 0) 0 first
    unfolding in_sequence places_of
    filled_begins l = record { room = l; most = omega arith; reached = refl; places = sym (table_none 32 0 (standing part first)) }

    module _ (table : List ℕ) (i next : ℕ) (f : Filled table i next) where
      pub filled_done : n ≤ i → table ≡ places_of part n first
      filled_done l = let same : i ≡ n = omega (arith, f.most) in subst (λ (k : ℕ). table ≡ places_of part k first) same f.places

      module _ (more : i < n) where
        -- with entry i filled
        set_places : set table i next ≡ places_of part (i + 1) first
        unfolding places_of
        set_places =
            let l : i < 32 = omega (arith, f.room) in
            let here : next ≡ standing part first i = rw f.reached in
            rw (f.places, here) (table_more 32 0 (standing part first) i l)

        pub filled_more : (end : ℕ) → part next ≡ Ok end → Filled (set table i next) (i + 1) end
        filled_more end e =
            record {
              room = f.room;
              most = omega arith;
              reached = rw add-one (sequence_last i first ∙ rw f.reached e);
              places = set_places;
            }

        -- the parts behind one that is refused have no place
        pub filled_refused : (refusal : Refusal) → part next ≡ Err refusal → set table i next ≡ places_of part n first
        unfolding places_of
        filled_refused refusal e = set_places ∙ table_rest 32 0 (standing part first) (i + 1) n (omega arith) unplaced
          where
            stopped : in_sequence part (i + 1) first ≡ Err refusal
            stopped = rw add-one (sequence_last i first ∙ rw f.reached e)

            unplaced : (k : ℕ) → i + 1 ≤ k → standing part first k ≡ 0
            unplaced k l =
                let z : i + 1 + (k - (i + 1)) ≡ k = omega arith in
                let stays = sequence_stays (i + 1) first refusal (k - (i + 1)) stopped in
                ap place_of (subst (λ (m : ℕ). in_sequence part m first ≡ Err refusal) z stays)
