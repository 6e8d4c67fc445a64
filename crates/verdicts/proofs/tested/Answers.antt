-- `verdicts::tested` meets its contract: the condition's test at the state of the number.
-- Assumes nothing.
use mathlib.Core.Path.{sym}
use Rattle.std.proofs.Common.{rules}
use native.Mathlib.Omega.{arith}
use Rattle.verdicts.proofs.Steps.Verdict.{Ready, test_asks, state_asks, single_asks, single_answers, tested_eleven, tested_twelve}
use Rattle.verdicts.proofs.tested.Goals as goal

pub returns-then-total-condition : goal.returns-then-total-condition
returns-then-total-condition c = sym (tested_eleven _ _ _ _ (omega (arith, c.total.ensures, c.if-total-condition.true)))

pub returns-then-diagram-state : goal.returns-then-diagram-state
returns-then-diagram-state c =
    sym
    (tested_twelve _ _ _ _ (omega (arith, c.total.ensures, c.if-total-condition.false))
    (omega (arith, c.if-diagram-state.true)))

pub condition_at-requires : goal.condition_at-requires
condition_at-requires c =
    record { loaded = c.requires.loaded; below = omega (arith, c.total.ensures, c.if-total-condition.false) }

pub test_of-test-requires : goal.test_of-test-requires
test_of-test-requires c =
    let ready : Ready c.args.file.now c.args.diagram c.total.result = record { loaded = c.requires.loaded; total_is = c.total.ensures } in
    let asks = test_asks ready c.if-total-condition.false c.condition_at.ensures in
    record { loaded = asks.0; listed = asks.1 }

pub state_of-s-requires : goal.state_of-s-requires
state_of-s-requires c =
    let ready : Ready c.args.file.now c.args.diagram c.total.result = record { loaded = c.requires.loaded; total_is = c.total.ensures } in
    let asks = state_asks ready c.if-diagram-state.false in
    record { ranges = asks.0; below = asks.1 }

pub passes-requires : goal.passes-requires
passes-requires c =
    let ready : Ready c.args.file.now c.args.diagram c.total.result = record { loaded = c.requires.loaded; total_is = c.total.ensures } in
    let asks = single_asks ready c.if-total-condition.false c.condition_at.ensures c.test_of-test.ensures c.if-diagram-state.false
    c.state_of-s.ensures in
    record { spans = c.requires.spans; within = asks.0; fits = asks.1 }

pub returns : goal.returns
returns c =
    let ready : Ready c.args.file.now c.args.diagram c.total.result = record { loaded = c.requires.loaded; total_is = c.total.ensures } in
    let answers = single_answers ready c.if-total-condition.false c.condition_at.ensures c.test_of-test.ensures c.if-diagram-state.false
    c.state_of-s.ensures c.passes.ensures in
    search (rules, answers)
