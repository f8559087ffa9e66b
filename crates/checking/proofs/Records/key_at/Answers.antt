-- `key_at` meets its contract: a field of the record at its place.
-- Assumes nothing.
use Rattle.checking.specs.Code.{key_at}
use Rattle.checking.proofs.Records.key_at.Goals as goal

pub returns : goal.returns
unfolding key_at
returns c = rw (c.read2.ensures, c.record_place.ensures)
