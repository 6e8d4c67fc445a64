-- `shapes::claim_of` meets its contract: the keys passed and the one met pick the case of `claim_of`.
-- Assumes nothing.
use native.Mathlib.Omega.{arith}
use borrow.Author.Tests.{eq-eqb, ne_eqb}
use Rattle.shapes.specs.Property.{claim_of}
use Rattle.shapes.proofs.claim_of.Goals as goal

pub returns-in-1 : goal.returns-in-1
unfolding claim_of
returns-in-1 c = simp (eq-eqb c.args.a 1 (omega arith))

pub returns-in-2 : goal.returns-in-2
unfolding claim_of
returns-in-2 c =
    let a = c.args.a in
    simp (ne_eqb a 1 (λ e. omega arith), eq-eqb a 2 (omega arith))

pub returns-in-3 : goal.returns-in-3
unfolding claim_of
returns-in-3 c =
    let a = c.args.a in
    simp (ne_eqb a 1 (λ e. omega arith), ne_eqb a 2 (λ e. omega arith), eq-eqb a 3 (omega arith))

pub returns-in_default : goal.returns-in_default
unfolding claim_of
returns-in_default c =
    let a = c.args.a in
    simp (ne_eqb a 1 (λ e. omega arith), ne_eqb a 2 (λ e. omega arith), ne_eqb a 3 (λ e. omega arith))
