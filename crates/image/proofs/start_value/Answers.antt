-- `start_value` meets its contract: a field of the record at its place.
-- Assumes nothing.
use mathlib.Core.Path.{ap, ◌∙◌}
use Rattle.numbers.specs.Bits.{signed32}
use Rattle.numbers.proofs.Kit.{fit32, back32}
use Rattle.image.specs.Layout.{start_value, variable_place}
use Rattle.image.proofs.start_value.Goals as goal

pub returns : goal.returns
unfolding start_value variable_place
returns c = back32 (fit32 c.signed.result c.signed.type_inv) ∙ c.signed.ensures ∙ ap signed32 (rw (c.read4.ensures, c.variable_place-place.ensures, c.label_count.ensures, c.cell_count.ensures))
