-- `is_free_name` meets its contract.
-- Assumes nothing.
use Rattle.program.specs.Names.{free_name}
use Rattle.program.proofs.reserved.is_free_name.Goals as goal

pub returns : goal.returns
unfolding free_name
returns c = rw (c.has_two_characters.ensures, c.is_reserved.ensures)
