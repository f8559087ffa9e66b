-- `start_value` meets its contract.
-- Assumes nothing.
use Rattle.numbers.proofs.Kit.{fit32, back32}
use Rattle.forms.specs.Code.{start_of}
use Rattle.reading.specs.Code.{small_of}
use Rattle.text.specs.Faults.{too_big}
use Rattle.reading.proofs.cells.start_value.Goals as goal

pub returns-in-Literal : goal.returns-in-Literal
unfolding start_of
returns-in-Literal c = rw (c.in-Literal.is, back32 (fit32 _ c.signed.type_inv), c.signed.ensures)

pub returns-in-Variable : goal.returns-in-Variable
unfolding start_of small_of too_big
returns-in-Variable c = rw c.in-Variable.is
