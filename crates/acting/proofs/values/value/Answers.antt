-- `value` meets its contract: an operand by its kind.
-- Assumes nothing.
use mathlib.Core.Path.{◌∙◌}
use borrow.Author.Rules.{rules}
use Rattle.numbers.proofs.Kit.{fit32, back32}
use Rattle.program.specs.Cells.{value_of}
use Rattle.effects.specs.Effects.{value}
use Rattle.acting.proofs.values.value.Goals as goal

pub returns-in-Nothing : goal.returns-in-Nothing
unfolding value value_of
returns-in-Nothing c = rw c.in-Nothing.is

pub returns-in-Literal : goal.returns-in-Literal
unfolding value value_of
returns-in-Literal c = rw c.in-Literal.is (search rules)

pub returns-in-Variable : goal.returns-in-Variable
unfolding value value_of
returns-in-Variable c = rw c.in-Variable.is (back32 (fit32 _ c.read.type_inv) ∙ c.read.ensures)
