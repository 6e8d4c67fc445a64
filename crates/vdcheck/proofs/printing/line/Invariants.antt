-- At the loop's head the line has the digits of the first i bytes.
use Rattle.vdcheck.proofs.Steps.Printing.{Spelt}
use Rattle.vdcheck.proofs.printing.line.Given as goal

abbrev pub invariant-loop-i : goal.invariant-loop-i
invariant-loop-i l = Spelt l.fn.report l.line l.i
