-- `records::kinds::signature_at` meets its contract: the signature of the record's kind byte.
-- Assumes nothing.
use Rattle.records.proofs.kinds.signature_at.Goals as goal

pub returns : goal.returns
returns c = c.signature_of.ensures
