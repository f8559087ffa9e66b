-- `opening` meets its contract.
-- Assumes nothing.
use mathlib.Core.Path.{◌∙◌}
use Rattle.image.specs.Layout.{cell_at}
use Rattle.printing.specs.Code.{name_after, opening_text}
use Rattle.printing.proofs.Pieces.{opening_words, there}
use Rattle.printing.proofs.statements.opening.Goals as goal

pub returns : goal.returns
unfolding opening_text cell_at name_after
returns c =
    opening_words _ _ _ _ c.mnemonic.ensures c.space_if.ensures c.end.ensures
    ∙ rw (c.name_key-name.ensures, c.byte-operation.ensures, c.byte-shape.ensures, ← there _ _ _)
