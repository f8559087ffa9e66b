-- `good_operand` meets its contract: by whether the field is used.
-- Assumes nothing.
use Rattle.cells.specs.Code.{literal_bits}
use Rattle.image.specs.Check.{good_operand}
use Rattle.cells.proofs.good_operand.Goals as goal

pub returns-then-used : goal.returns-then-used
unfolding good_operand literal_bits
returns-then-used c = rw (c.if-used.true, c.is_present.ensures, c.is_literal.ensures)

pub returns : goal.returns
unfolding good_operand
returns c = rw c.if-used.false
