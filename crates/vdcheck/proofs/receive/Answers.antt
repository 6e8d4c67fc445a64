-- A read puts what it gives behind what was read before.
use Rattle.std.proofs.Common.{rules, ◌++◌, List, ℕ, take, drop, sym, ap, subst, ◌∙◌}
use Rattle.std.proofs.Math.Seq.{take-add}
use Rattle.std.proofs.KnownBytes.{Consumes-trans}
use Rattle.std.specs.Io.KnownBytes.{Consumes}
use Rattle.vdcheck.proofs.receive.Goals as goal

pub loop-length-preserved : goal.loop-length-preserved
loop-length-preserved g c =
    let read = c.in_ok-more.ensures in
    let new = c.receive_some.new.buffer in
    let front = take-add c.loop-length.length c.in_ok-more.more new ∙ ap (λ (l : List ℕ). l ++ take c.in_ok-more.more (drop c.loop-length.length new)) read.kept in
    (search rules, search rules, subst (Consumes _ _) (sym front) (Consumes-trans _ _ _ _ _ c.loop-length.invariant.2 read.bytes.0))
