-- `domains::extents::divide`, where the quotients or remainders don't rise between the ends. Assumes nothing.
use Rattle.std.proofs.lemmas.Grind.{common_steps}
use native.Mathlib.Omega.{arith}
use mathlib.Core.Path.{◌≡◌}
use mathlib.Core.Bool.{false}
use Prim.Native.Nat.{ℕ}
use lib.IntN.{ℤ, pos, ◌-ℤ◌}
use Rattle.domains.specs.declared.extents.Extent.{Extent}
use Rattle.domains.specs.Extent.{extent_of, rises_of, divide_in}
use Rattle.domains.proofs.extents.divide.Goals as goal

wraps : (kind : ℕ) (x : Extent) (d : ℤ) → rises_of kind x.span.low x.span.high d ≡ false → extent_of (pos 0) (d -ℤ pos 1) x.widest ≡ divide_in kind x d
unfolding divide_in
wraps kind x d r = rw r

pub returns-else-rises : goal.returns-else-rises
returns-else-rises c = grind (arith, common_steps, wraps)
