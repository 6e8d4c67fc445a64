-- The number of states: what refusal 7 builds up by variable is the product of the ranges, at least 1 and at most 1,048,576.
-- Assumes nothing.
use mathlib.Core.Path.{◌≡◌, refl, sym, ◌∙◌}
use mathlib.Core.Bool.{Bool, true, false, cond}
use mathlib.Core.List.{List}
use Prim.Native.Nat.{ℕ, zero, suc, ◌+◌, ◌-◌, ◌*◌, ◌<◌, ◌≤◌}
use native.Mathlib.Nat.{mul_assoc, mul-one, one-mul}
use native.Mathlib.Omega.{arith}
use borrow.Author.Tests.{leb-true}
use lib.Dec.{leb}
use Rattle.std.specs.declared.result.Result.TheVariants.{Ok, Err}
use Rattle.shapes.specs.declared.Refusal.{Refusal}
use Rattle.ranges.specs.Range.{lows_of, highs_of}
use Rattle.states.specs.Number.{count_of}
use Rattle.ranges.proofs.Laws.Product.{product_from, product_whole, product_more, product_lacked}
use Rattle.states.proofs.Laws.Number.{count_pos}
use Rattle.reading.specs.States.{size_at, states_of}

module _ (file : List ℕ) (vars : ℕ) where
  size_more : (n at : ℕ) → at < vars → product_from file vars (suc n) at ≡ size_at file at * product_from file vars n (at + 1)
  unfolding size_at
  size_more n at l = product_more file vars n at l

  -- the variables from `at` on bring `product` to s, below the limit
  abbrev Built : ℕ → ℕ → ℕ → ℕ → Type 0
  Built n at product s = (s ≡ product * product_from file vars n at) × (s ≤ 1048576)

  built_by : (n left at product s : ℕ) → at < vars → (b : Bool) → leb (product * size_at file at) 1048576 ≡ b
      → (product * size_at file at ≤ 1048576 → states_of file left (at + 1) (product * size_at file at) ≡ Ok s
      → Built n (at + 1) (product * size_at file at) s)
      → cond b (states_of file left (at + 1) (product * size_at file at)) (Err (Refusal.States at)) ≡ Ok s
      → Built (suc n) at product s
  built_by n left at product s l true is rest e =
      let z = rest (leb-true _ _ is) e in
      (rw (size_more n at l) (z.0 ∙ mul_assoc product (size_at file at) (product_from file vars n (at + 1))), z.1)
  built_by n left at product s l false is rest e = let z : ◌≡◌ {A = ℕ} 0 1 = cc in absurd (omega arith)

  -- of n ranges from `at` on the first `left` are those of variables, and the others have one value
  states_built : (n left at product s : ℕ) → left ≡ vars - at → left ≤ n → product ≤ 1048576 → states_of file left at product ≡ Ok s
      → Built n at product s
  unfolding states_of
  states_built n zero at product s v m l e =
      let z : product ≡ s = cc in
      (rw (product_lacked file vars n at (omega arith)) (sym z ∙ sym (mul-one product)), omega arith)
  states_built zero (suc left) at product s v m l e = absurd (omega arith)
  states_built (suc n) (suc left) at product s v m l e =
      built_by n left at product s (omega arith) (leb (product * size_at file at) 1048576) refl
      (λ k. states_built n left (at + 1) (product * size_at file at) s (omega arith) (omega arith) k) e

  -- what refusal 7 leaves
  pub states_most : (s : ℕ) → vars ≤ 12 → states_of file vars 0 1 ≡ Ok s
      → (count_of (lows_of file vars) (highs_of file vars) ≡ s) × (1 ≤ s) × (s ≤ 1048576)
  states_most s m e =
      let z = states_built 12 vars 0 1 s (omega arith) m (omega arith) e in
      let product : s ≡ product_from file vars 12 0 = z.0 ∙ one-mul (product_from file vars 12 0) in
      let count : count_of (lows_of file vars) (highs_of file vars) ≡ s = product_whole file vars ∙ sym product in
      (count, omega (arith, count, count_pos (lows_of file vars) (highs_of file vars)), z.1)
