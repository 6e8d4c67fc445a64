-- `records::walk::suits` meets its contract: what is asked picks the case of `suits`.
-- Assumes nothing.
use borrow.Author.Tests.{eq-eqb, ne_eqb}
use mathlib.Core.Logic.{⊎_elim}
use mathlib.Core.Path.{◌≡◌, refl}
use Rattle.records.specs.declared.kinds.Sort.TheVariants.{Number, Truth}
use mir.Syntax.{w16}
use Rattle.integers.proofs.Laws.Parts.{back}
use Rattle.records.specs.Walk.{suits}
use Rattle.records.proofs.walk.suits.Goals as goal

pub returns-in-Number : goal.returns-in-Number
unfolding suits
returns-in-Number c = ⊎_elim (λ (e : c.args.want ≡ Number). rw e refl) (λ (e : c.args.want ≡ Truth). rw e refl) c.in-Number.is

pub returns-else-file-at-eq16 : goal.returns-else-file-at-eq16
unfolding suits
returns-else-file-at-eq16 c = simp (c.in-Divisor.is, ne_eqb _ _ c.if-file-at-eq16.false)

pub returns-then-file-at-eq16 : goal.returns-then-file-at-eq16
unfolding suits
returns-then-file-at-eq16 c =
    rw (back w16 c.value_at.result c.value_at.type_inv)
    (simp (c.in-Divisor.is, eq-eqb _ _ c.if-file-at-eq16.true, c.value_at.ensures))
