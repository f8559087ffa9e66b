-- `bad_length` meets its contract: the tests as they stand.
-- Assumes nothing.
use mathlib.Core.Path.{refl}
use Rattle.image.specs.Check.{bad_length}
use Rattle.checking.proofs.bad_length.Goals as goal

pub returns : goal.returns
unfolding bad_length
returns c = refl
