-- `operand` meets its contract.
-- Assumes nothing.
use Rattle.numbers.proofs.Kit.{fit32, back32}
use Rattle.forms.specs.Code.{value_of}
use Rattle.reading.specs.Code.{operand_of}
use Rattle.program.proofs.Keys.{key_name}
use Rattle.reading.proofs.cells.operand.Goals as goal

pub returns-in-Literal : goal.returns-in-Literal
unfolding operand_of value_of
returns-in-Literal c = rw (c.in-Literal.is, back32 (fit32 _ c.signed.type_inv), c.signed.ensures)

pub returns-in-Variable : goal.returns-in-Variable
unfolding operand_of value_of
returns-in-Variable c = rw (c.in-Variable.is, key_name)
