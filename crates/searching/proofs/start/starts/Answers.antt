-- `searching::start::starts` meets its contract.
-- Assumes nothing.
use mathlib.Core.Path.{sym}
use Rattle.searching.proofs.Laws.Start.{starts_failing, denial_start}
use Rattle.searching.proofs.start.starts.Goals as goal

pub first_failing-requires : goal.first_failing-requires
first_failing-requires c =
    let p = c.requires in
    record { loaded = p.loaded; spans = p.spans; fits = rw c.denial-test.ensures (denial_start _ _ p.loaded) }

pub returns : goal.returns
returns c = rw (c.first_failing.ensures, c.denial-test.ensures) (sym (starts_failing _ _))
