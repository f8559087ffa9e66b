-- `good_written` meets its contract: by whether the field is used.
-- Assumes nothing.
use Rattle.image.specs.Check.{good_written}
use Rattle.cells.proofs.good_written.Goals as goal

pub returns-then-used : goal.returns-then-used
unfolding good_written
returns-then-used c = rw (c.if-used.true, c.is_read_only.ensures, c.is_present.ensures)

pub returns : goal.returns
unfolding good_written
returns c = rw c.if-used.false
