-- `searching::scan::first_failing` meets its contract: the test holds in the states before n, and `state` is the next.
-- Assumes nothing.
use mathlib.Core.Path.{◌≡◌, refl, sym, ◌∙◌}
use mathlib.Core.Bool.{true}
use native.Mathlib.Omega.{arith}
use Rattle.testing.specs.Testing.{passes_of}
use Rattle.testing.proofs.Laws.Testing.{passes_vacuous, passes_concluded}
use Rattle.diagrams.proofs.Laws.Diagram.{promised}
use Rattle.searching.specs.Scan.{failing_of}
use Prim.Native.Nat.{◌+◌}
use Rattle.searching.proofs.Laws.Scan.{StatesPassed, pass_begin, pass_within, pass_idle, pass_more, onward_asks, pass_onward, pass_fails, pass_end}
use Rattle.searching.proofs.scan.first_failing.Goals as goal
use Rattle.searching.proofs.scan.first_failing.Goals.{Joined-else-holds, else-holds-via-then-holds+else-not-concludes, else-holds-via-else-holds}

pub loop-n-init : goal.loop-n-init
loop-n-init c = pass_begin _ _ c.requires.loaded

pub advance-next-requires : goal.advance-next-requires
advance-next-requires c =
    let asks = pass_idle _ _ c.requires.loaded c.loop-n.invariant c.loop-n-test.true in
    record { most = asks.0; idle = asks.1 }

pub holds-requires : goal.holds-requires
holds-requires c = record { fits = c.requires.fits.premise _ (pass_within _ _ c.requires.loaded c.loop-n.invariant c.loop-n-test.true); spans = c.requires.spans }

pub concludes-requires : goal.concludes-requires
concludes-requires c =
    record { spans = c.requires.spans; within = pass_within _ _ c.requires.loaded c.loop-n.invariant c.loop-n-test.true; fits = c.requires.fits }

pub returns-then-not-concludes : goal.returns-then-not-concludes
unfolding failing_of
returns-then-not-concludes c =
    sym (pass_fails _ _ c.requires.loaded c.loop-n.invariant c.loop-n-test.true
    (passes_concluded _ _ _ _ _ c.holds.ensures c.if-holds.true c.concludes.ensures ∙ c.if-not-concludes.true))

pub overflow_add-n : goal.overflow_add-n
overflow_add-n c = omega (arith, c.loop-n-test.true, (promised _ _ c.requires.loaded).states.1)

pub onward-to-requires : goal.onward-to-requires
onward-to-requires c =
    let asks = onward_asks _ _ c.requires.loaded c.requires.fits in
    let small = (promised _ _ c.requires.loaded).states.1 in
    record { spans = c.requires.spans; fits = asks.0; ranges = asks.1.0; most = asks.1.1; asked = omega (arith, c.if-ask-n.true, c.loop-n-test.true, small) }

-- the test passes at the state at hand, so one state more is passed
moved : (c : Joined-else-holds)
    → StatesPassed c.args.diagram (passes_of c.args.diagram.low c.args.diagram.high c.args.file.now c.args.test) c.advance-next.result (c.loop-n.n + 1)
moved c =
    let tested : passes_of c.args.diagram.low c.args.diagram.high c.args.file.now c.args.test c.loop-n.state ≡ true =
    elim c.else-holds.branch [
      | else-holds-via-then-holds+else-not-concludes w ↦
          passes_concluded _ _ _ _ _ c.holds.ensures w.if-holds.true w.concludes.ensures ∙ w.if-not-concludes.false
      | else-holds-via-else-holds w ↦ passes_vacuous _ _ _ _ _ c.holds.ensures w.if-holds.false
    ] in
    pass_more _ _ c.requires.loaded c.loop-n.invariant c.loop-n-test.true tested c.advance-next.ensures

-- and behind it as many as boxes skip
pub loop-n-smaller-then-ask-n : goal.loop-n-smaller-then-ask-n
loop-n-smaller-then-ask-n c =
    let at = (goal.at.loop-n-smaller-then-ask-n c).Joined-else-holds in
    let further = pass_onward _ _ c.requires.loaded c.requires.fits (λ state. refl) (moved at) _ _ c.onward-to.ensures in
    omega (arith, further.1, c.loop-n-test.true)

pub loop-n-preserved-then-ask-n : goal.loop-n-preserved-then-ask-n
loop-n-preserved-then-ask-n c =
    let at = (goal.at.loop-n-preserved-then-ask-n c).Joined-else-holds in
    (pass_onward _ _ c.requires.loaded c.requires.fits (λ state. refl) (moved at) _ _ c.onward-to.ensures).0

pub loop-n-preserved : goal.loop-n-preserved
loop-n-preserved c = moved (goal.at.loop-n-preserved c).Joined-else-holds

pub returns : goal.returns
unfolding failing_of
returns c = sym (pass_end _ _ c.requires.loaded c.loop-n.invariant c.loop-n-test.false)
