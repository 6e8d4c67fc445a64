-- `records::value_at` meets its contract: the bytes are those of the file.
-- Assumes nothing.
use mathlib.Core.Path.{◌∙◌}
use mir.Syntax.{w16}
use Rattle.integers.proofs.Laws.Parts.{back}
use Rattle.records.proofs.value_at.Goals as goal

pub returns : goal.returns
returns c =
    rw (back w16 c.signed16.result c.signed16.type_inv)
    (c.signed16.ensures ∙ simp (c.byte_at.ensures, c.byte_at-2.ensures))
