-- `cell_at` meets its contract: field by field.
-- Assumes nothing.
use Rattle.image.specs.Layout.{cell_at}
use Rattle.image.proofs.cell_at.Goals as goal

pub returns : goal.returns
unfolding cell_at
returns c = rw (c.read2-target.ensures, c.operand_at-right.ensures, c.operand_at-left.ensures, c.byte-shapes.ensures, c.byte-selector.ensures, c.from.ensures, c.byte-written.ensures, c.byte-operation.ensures, c.from-place.ensures)
