-- `bad_trailer` meets its contract: the tests as they stand.
-- Assumes nothing.
use mathlib.Core.Bool.{or_assoc}
use Rattle.program.specs.Variables.{most_cells, most_labels, most_variables}
use Rattle.image.specs.Check.{bad_trailer}
use Rattle.checking.proofs.bad_trailer.Goals as goal

pub returns : goal.returns
unfolding bad_trailer most_cells most_labels most_variables
returns c = rw (c.image_length.ensures, c.whole_length-whole.ensures, c.first_label_place-place.ensures, c.variable_count-variables.ensures, c.label_count-labels.ensures, c.cell_count-cells.ensures) (simp or_assoc)
