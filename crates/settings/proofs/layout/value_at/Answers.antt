-- `value_at` meets its contract: four bytes, signed.
-- Assumes nothing.
use mathlib.Core.Path.{ap, ◌∙◌}
use Rattle.numbers.specs.Bits.{signed32}
use Rattle.program.proofs.Results.{got32}
use Rattle.settings.specs.Layout.{value_at}
use Rattle.settings.proofs.layout.value_at.Goals as goal

pub returns : goal.returns
unfolding value_at
returns c = got32 _ _ c.signed.type_inv (c.signed.ensures ∙ ap signed32 c.read4.ensures)
