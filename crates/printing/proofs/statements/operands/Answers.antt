-- `operands` meets its contract.
-- Assumes nothing.
use mathlib.Core.Path.{◌∙◌}
use Rattle.image.specs.Layout.{cell_at}
use Rattle.printing.specs.Code.{operands_text}
use Rattle.printing.proofs.Pieces.{operands_words}
use Rattle.printing.proofs.statements.operands.Goals as goal

pub returns : goal.returns
unfolding operands_text cell_at
returns c =
    operands_words _ _ _ _ _ _ _ _ c.operand-left.ensures c.sign-sign.ensures c.operand-right.ensures
    ∙ rw (c.byte-shapes.ensures, c.byte.ensures, c.byte-2.ensures)
