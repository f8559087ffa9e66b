-- `fields_at` meets its contract: field by field.
-- Assumes nothing.
use Rattle.cells.specs.Code.{fields_at}
use Rattle.cells.proofs.fields_at.Goals as goal

pub returns : goal.returns
unfolding fields_at
returns c = rw (c.read2-2.ensures, c.read2.ensures, c.read4-2.ensures, c.read4.ensures, c.byte-4.ensures, c.byte-3.ensures, c.byte-2.ensures, c.byte.ensures)
