-- `variable_line` meets its contract.
-- Assumes nothing.
use mathlib.Core.Path.{◌∙◌}
use native.Mathlib.Omega.{arith}
use Rattle.image.specs.Layout.{start_value}
use Rattle.printing.specs.Code.{record_text}
use Rattle.printing.proofs.Pieces.{variable_words}
use Rattle.printing.proofs.variable_line.Goals as goal

pub returns : goal.returns
unfolding record_text start_value
returns c =
    variable_words _ _ _ _ c.literal-start.ensures
    ∙ rw (c.read4.ensures, c.read2-name.ensures, c.variable_place-place.ensures.0)

pub overflow_add-place : goal.overflow_add-place
overflow_add-place c = omega (arith, c.variable_place-place.ensures.1)
