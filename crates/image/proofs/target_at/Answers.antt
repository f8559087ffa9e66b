-- `target_at` meets its contract: a field of the record at its place.
-- Assumes nothing.
use Rattle.image.specs.Code.{target_of}
use Rattle.image.proofs.target_at.Goals as goal

pub returns : goal.returns
unfolding target_of
returns c = rw (c.read2.ensures, c.label_place.ensures)
