-- `is_letter` meets its contract.
-- Assumes nothing.
use Rattle.program.specs.Names.{letter}
use Rattle.program.proofs.names.is_letter.Goals as goal

pub returns : goal.returns
unfolding letter
returns c = c.is_ascii_uppercase.ensures.value
