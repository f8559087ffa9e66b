-- `is_earlier` meets its contract.
-- Assumes nothing.
use mathlib.Core.Path.{refl}
use Rattle.names.specs.Code.{earlier}
use Rattle.names.proofs.is_earlier.Goals as goal

pub returns : goal.returns
unfolding earlier
returns c = refl
