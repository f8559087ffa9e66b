-- `is_long` meets its contract.
-- Assumes nothing.
use mathlib.Core.Path.{refl}
use Rattle.text.specs.Faults.{long_line}
use Rattle.text.proofs.is_long.Goals as goal

pub returns : goal.returns
unfolding long_line
returns c = refl
