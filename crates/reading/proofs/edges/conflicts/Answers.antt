-- `reading::edges::conflicts`: it goes through the n edges in a row.
-- Assumes nothing.
use borrow.Author.Tests.{tests}
use mathlib.Core.Path.{◌≡◌}
use mathlib.Core.Bool.{Bool, true, false}
use Prim.Native.Nat.{ℕ, ◌+◌}
use native.Mathlib.Omega.{arith}
use Rattle.std.proofs.Common.{rules}
use Rattle.std.proofs.lemmas.Iterator.{YieldsList-from_range, cases_from_any}
use Rattle.sections.specs.Section.{edge_at}
use Rattle.reading.specs.Edge.{conflict_of}
use Rattle.reading.proofs.Steps.Any.{any_found}
use Rattle.reading.proofs.edges.conflicts.Goals as goal

pub returns : goal.returns
returns c =
    let a = c.args in
    let test : ℕ → Bool = λ i. conflict_of (edge_at a.file.now i) a.edge in
    any_found test a.first a.n _
    (cases_from_any _ _ _ (λ i. test i ≡ true) (λ i. test i ≡ false) c.any.ensures.ran
    (YieldsList-from_range a.first (a.first + a.n) a.n (cc) (omega arith)) (λ x q k. search (rules, tests)) (λ x q k. search (rules, tests)))
