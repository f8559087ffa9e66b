-- `is_digit` meets its contract.
-- Assumes nothing.
use Rattle.program.specs.Names.{digit}
use Rattle.program.proofs.names.is_digit.Goals as goal

pub returns : goal.returns
unfolding digit
returns c = c.is_ascii_digit.ensures.value
