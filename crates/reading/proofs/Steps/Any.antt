-- Whether one of n numbers in a row passes a test, as a chain of iterators finds it.
-- Assumes nothing.
use mathlib.Core.Path.{◌≡◌, sym}
use mathlib.Core.Bool.{Bool, true, false}
use mathlib.Core.List.{List}
use Prim.Native.Nat.{ℕ, ◌+◌, ◌-◌, ◌<◌}
use native.Mathlib.Omega.{arith}
use lib.ListN.{length}
use Rattle.std.specs.Bool.{MatchBool}
use Rattle.std.specs.List.{range_with_len, AllWithin, HoldsAt}
use Rattle.std.proofs.lemmas.List.FromFn.{length-range_with_len, get_or-range_with_len}
use Rattle.truths.specs.Search.{any}
use Rattle.truths.proofs.Laws.Any.{any_at, none_passes}

module _ (test : ℕ → Bool) (first n : ℕ) where
  abbrev all : List ℕ
  all = range_with_len first n

  pub any_found : (found : Bool)
      → MatchBool found ((k : ℕ) × (k < length all) × HoldsAt (λ i. test i ≡ true) all k) (AllWithin (λ i. test i ≡ false) all 0 (length all))
      → found ≡ any test n first
  any_found true some =
      let l : some.0 < n = omega (arith, length-range_with_len first n, some.1) in
      sym (any_at test n first some.0 l (rw (get_or-range_with_len first n some.0 0 l) at (some.2 0)))
  any_found false none =
      sym (none_passes test n first λ k l m.
      let i : k - first < n = omega arith in
      let z : first + (k - first) ≡ k = omega arith in
      rw (get_or-range_with_len first n (k - first) 0 i, z) at (none (k - first) 0 (omega arith) (rw length-range_with_len i)))
