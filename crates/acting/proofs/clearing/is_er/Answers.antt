-- `is_er` meets its contract: by the operand.
-- Assumes nothing.
use Rattle.program.specs.Cells.{value_of}
use Rattle.effects.specs.Deeds.{is_er}
use Rattle.acting.proofs.clearing.is_er.Goals as goal

pub returns-in-Nothing : goal.returns-in-Nothing
unfolding is_er value_of
returns-in-Nothing c = rw c.in-Nothing.is

pub returns-in-Literal : goal.returns-in-Literal
unfolding is_er value_of
returns-in-Literal c = rw c.in-Literal.is

pub returns-in-Variable : goal.returns-in-Variable
unfolding is_er value_of
returns-in-Variable c = rw c.in-Variable.is
