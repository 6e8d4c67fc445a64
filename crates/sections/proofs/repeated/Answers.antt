-- `sections::repeated` meets its contract: it goes through the n edges in a row.
-- Assumes nothing.
use borrow.Author.Tests.{tests}
use mathlib.Core.Path.{◌≡◌}
use mathlib.Core.Bool.{true, false}
use native.Mathlib.Omega.{arith}
use Prim.Native.Nat.{◌+◌, ◌*◌}
use Rattle.std.proofs.Common.{rules}
use Rattle.std.proofs.lemmas.Iterator.{YieldsList-from_range, cases_from_any}
use Rattle.records.specs.Record.{same_bytes}
use Rattle.sections.specs.Section.{repeated_of}
use Rattle.sections.proofs.Steps.Section.{any_found}
use Rattle.sections.proofs.repeated.Goals as goal

pub returns : goal.returns
unfolding repeated_of
returns c =
    any_found (λ e. same_bytes c.args.file.now (8 * e + 1) (8 * c.args.at + 1) 5) c.args.first c.args.n _
    (cases_from_any _ _ _ (λ e. same_bytes c.args.file.now (8 * e + 1) (8 * c.args.at + 1) 5 ≡ true) (λ e. same_bytes c.args.file.now (8 * e + 1) (8 * c.args.at + 1) 5 ≡ false)
    c.any.ensures.ran (YieldsList-from_range c.args.first (c.args.first + c.args.n) c.args.n (cc) (omega arith))
    (λ x q k. search (rules, tests)) (λ x q k. search (rules, tests)))
