-- `is_user_name` meets its contract.
-- Assumes nothing.
use Rattle.program.specs.Names.{user_name}
use Rattle.program.proofs.names.is_user_name.Goals as goal

pub returns : goal.returns
unfolding user_name
returns c = rw (c.has_two_characters.ensures, c.is_paper_word.ensures)
