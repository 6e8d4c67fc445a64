-- `records::zeros` meets its contract: it goes through the places of the n bytes.
-- Assumes nothing.
use borrow.Author.Tests.{tests}
use native.Mathlib.Omega.{arith}
use Rattle.std.proofs.Common.{rules, ◌≡◌, get_or, ◌+◌}
use Rattle.std.proofs.lemmas.Iterator.{YieldsList-from_range, cases_from_all}
use Rattle.records.proofs.Steps.Record.{zeros_row}
use Rattle.records.proofs.zeros.Goals as goal

pub returns : goal.returns
returns c =
    zeros_row c.args.file.now c.args.from c.args.n _
    (cases_from_all _ _ _ (λ i. get_or c.args.file.now i 0 ≡ 0) (λ i. get_or c.args.file.now i 0 ≡ 0 → ⊥) c.all.ensures.ran
    (YieldsList-from_range c.args.from (c.args.from + c.args.n) c.args.n (cc) (omega arith))
    (λ x q k. search (rules, tests)) (λ x q k. search (rules, tests)))
