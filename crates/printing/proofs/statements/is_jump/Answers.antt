-- `is_jump` meets its contract.
-- Assumes nothing.
use mathlib.Core.Path.{refl}
use Rattle.printing.specs.Code.{jumps}
use Rattle.printing.proofs.statements.is_jump.Goals as goal

pub returns : goal.returns
unfolding jumps
returns c = refl
