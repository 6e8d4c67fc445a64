-- `searching::budget::records` meets its contract. Assumes nothing.
use mathlib.Core.Path.{◌≡◌, refl}
use mathlib.Core.List.{List, [], ◌∷◌}
use Prim.Native.Nat.{ℕ, ◌+◌, ◌-◌}
use native.Mathlib.Nat.{mul-le-mul}
use native.Mathlib.Numerals.{add-one}
use native.Mathlib.Omega.{arith}
use lib.ListN.{length, get_or, take, drop}
use lib.Seq.{take-length}
use Rattle.searching.specs.Budget.{records_of}
use Rattle.searching.proofs.budget.records.Goals as goal

-- the table from the second entry on
behind : (spans : List ℕ) (at : ℕ) → get_or (take (length spans - 1) (drop 1 spans)) at 0 ≡ get_or spans (at + 1) 0
behind [] at = refl
behind (x ∷ l) at = let z : length (x ∷ l) - 1 ≡ length l = omega arith in rw (z, take-length l, add-one at)

pub returns : goal.returns
unfolding records_of
returns c =
    let test = c.args.test in (
      rw (
        c.length_at.ensures.0,
        c.length_at-2.ensures.0,
        c.length_at-3.ensures.0,
        behind c.args.spans.now test.transition,
      ),
      omega (arith, mul-le-mul c.requires.few c.length_at-3.ensures.1, c.length_at.ensures.1, c.length_at-2.ensures.1),
    )
