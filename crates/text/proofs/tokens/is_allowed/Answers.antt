-- `is_allowed` meets its contract.
-- Assumes nothing.
use mathlib.Core.Path.{refl}
use Rattle.text.specs.Tokens.{printable}
use Rattle.text.proofs.tokens.is_allowed.Goals as goal

pub returns : goal.returns
unfolding printable
returns c = refl
