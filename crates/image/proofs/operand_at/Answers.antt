-- `operand_at` meets its contract: the shapes come in the order of `operand_at`.
-- Assumes nothing.
use mathlib.Core.Path.{ap, ◌∙◌}
use Rattle.numbers.proofs.Kit.{tests}
use Rattle.numbers.specs.Bits.{signed32}
use Rattle.program.specs.declared.Operand.TheVariants.{Literal}
use Rattle.program.proofs.Results.{got32}
use Rattle.image.specs.Layout.{operand_at}
use Rattle.image.proofs.operand_at.Goals as goal

pub returns-in-1 : goal.returns-in-1
unfolding operand_at
returns-in-1 c = rw c.in-1.is (ap Literal (got32 _ _ c.signed.type_inv c.signed.ensures ∙ ap signed32 c.read4-number.ensures))

pub returns-in-2 : goal.returns-in-2
unfolding operand_at
returns-in-2 c = rw (c.in-2.is, c.read4-number.ensures)

pub returns-in_default : goal.returns-in_default
unfolding operand_at
returns-in_default c = let h = c.in_default in search tests
