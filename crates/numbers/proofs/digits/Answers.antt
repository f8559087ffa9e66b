-- `digits` meets its contract: the bits of the logic are the digits of specs/.
-- Assumes nothing.
use mathlib.Core.Path.{◌∙◌}
use Rattle.numbers.proofs.Kit.{back32}
use Rattle.numbers.proofs.Laws.{bits_digits}
use Rattle.numbers.proofs.digits.Goals as goal

pub returns : goal.returns
returns c = c.cast_unsigned.ensures ∙ rw (back32 c.ranges.z) (bits_digits c.args.z)
