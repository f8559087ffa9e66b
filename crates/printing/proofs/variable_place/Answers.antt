-- `variable_place` meets its contract.
-- Assumes nothing.
use mathlib.Core.Path.{◌∙◌}
use native.Mathlib.Omega.{arith}
use Rattle.image.specs.Layout.{variable_place}
use Rattle.printing.proofs.variable_place.Goals as goal

pub returns : goal.returns
unfolding variable_place
returns c =
    (c.variable_place.ensures ∙ rw (c.label_count.ensures, c.cell_count.ensures), omega (arith, c.variable_place.ensures))
