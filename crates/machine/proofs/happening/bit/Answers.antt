-- `bit` meets its contract: 0 and 1 are the same numbers without a sign.
-- Assumes nothing.
use mathlib.Core.Path.{◌∙◌}
use Rattle.machine.proofs.Kit.{bit_fits, bit_back}
use Rattle.machine.proofs.happening.bit.Goals as goal

pub overflow_cast-result : goal.overflow_cast-result
overflow_cast-result c = bit_fits c.read.result c.read.type_inv (rw c.read.ensures c.requires)

pub returns : goal.returns
returns c = bit_back c.read.result c.read.type_inv (rw c.read.ensures c.requires) ∙ c.read.ensures
