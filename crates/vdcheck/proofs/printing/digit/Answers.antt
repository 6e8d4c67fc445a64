-- The digit by the case that the test tells.
use Rattle.std.proofs.Common.{rules}
use Rattle.vdcheck.specs.Printing.{digit_of}
use Rattle.vdcheck.proofs.printing.digit.Goals as goal

pub returns-then-number-lt10 : goal.returns-then-number-lt10
unfolding digit_of
returns-then-number-lt10 c = search rules

pub returns-else-number-lt10 : goal.returns-else-number-lt10
unfolding digit_of
returns-else-number-lt10 c = search rules
