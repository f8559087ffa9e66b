-- `write::operand_number` meets its contract: by the cases of an operand.
-- Assumes nothing.
use mathlib.Core.Path.{ap, ◌∙◌}
use borrow.Author.Rules.{rules}
use Rattle.numbers.specs.Bits.{digits32}
use Rattle.image.specs.Layout.{operand_number}
use Rattle.image.proofs.write.operand_number.Goals as goal

pub returns-in-Nothing : goal.returns-in-Nothing
unfolding operand_number
returns-in-Nothing c = rw c.in-Nothing.is

pub returns-in-Literal : goal.returns-in-Literal
unfolding operand_number
returns-in-Literal c = rw c.in-Literal.is (c.digits.ensures ∙ ap digits32 (search rules))

pub returns-in-Variable : goal.returns-in-Variable
unfolding operand_number
returns-in-Variable c = rw c.in-Variable.is
