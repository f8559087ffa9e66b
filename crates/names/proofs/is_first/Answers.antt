-- `is_first` meets its contract.
-- Assumes nothing.
use mathlib.Core.Path.{refl}
use Rattle.names.specs.Code.{first_as}
use Rattle.names.proofs.is_first.Goals as goal

pub returns : goal.returns
unfolding first_as
returns c = refl
