-- `reading::edges::doubled`: it goes through the edges in a row.
-- Assumes nothing.
use borrow.Author.Tests.{tests}
use mathlib.Core.Path.{◌≡◌}
use mathlib.Core.Bool.{Bool, true, false}
use Prim.Native.Nat.{ℕ, ◌+◌}
use native.Mathlib.Omega.{arith}
use Rattle.std.proofs.Common.{rules}
use Rattle.std.proofs.lemmas.Iterator.{YieldsList-from_range, cases_from_any}
use Rattle.shapes.specs.Edge.{double_from}
use Rattle.sections.specs.Section.{edge_at}
use Rattle.reading.specs.Edge.{doubled_of}
use Rattle.reading.proofs.Steps.Any.{any_found}
use Rattle.reading.proofs.edges.doubled.Goals as goal

pub returns : goal.returns
unfolding doubled_of
returns c =
    let o = c.args.outline in
    let test : ℕ → Bool = λ i. double_from c.args.node (edge_at c.args.file.now i) in
    any_found test o.edge o.edges _
    (cases_from_any _ _ _ (λ i. test i ≡ true) (λ i. test i ≡ false) c.any.ensures.ran
    (YieldsList-from_range o.edge (o.edge + o.edges) o.edges (cc) (omega arith)) (λ x q k. search (rules, tests)) (λ x q k. search (rules, tests)))
