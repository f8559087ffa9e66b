-- `print` meets its contract: by the kind of the operand.
-- Assumes nothing.
use borrow.Author.Rules.{rules}
use Rattle.acting.specs.Code.{printing_by}
use Rattle.program.proofs.Results.{got32}
use Rattle.acting.proofs.doing.print.Goals as goal

pub returns-in-Nothing : goal.returns-in-Nothing
unfolding printing_by
returns-in-Nothing c = rw c.in-Nothing.is

pub returns-in-Literal : goal.returns-in-Literal
unfolding printing_by
returns-in-Literal c = rw c.in-Literal.is (search rules)

pub returns-in-Variable : goal.returns-in-Variable
unfolding printing_by
returns-in-Variable c = rw c.in-Variable.is (simp (got32 _ _ c.read.type_inv c.read.ensures))
