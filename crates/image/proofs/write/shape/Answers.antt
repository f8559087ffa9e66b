-- `write::shape` meets its contract: by the cases of an operand.
-- Assumes nothing.
use Rattle.image.specs.Layout.{shape}
use Rattle.image.proofs.write.shape.Goals as goal

pub returns-in-Nothing : goal.returns-in-Nothing
unfolding shape
returns-in-Nothing c = rw c.in-Nothing.is

pub returns-in-Literal : goal.returns-in-Literal
unfolding shape
returns-in-Literal c = rw c.in-Literal.is

pub returns-in-Variable : goal.returns-in-Variable
unfolding shape
returns-in-Variable c = rw c.in-Variable.is
