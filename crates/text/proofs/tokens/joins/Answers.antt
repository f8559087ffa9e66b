-- `joins` meets its contract.
-- Assumes nothing.
use Rattle.text.specs.Tokens.{joins}
use Rattle.text.proofs.tokens.joins.Goals as goal

pub returns : goal.returns
unfolding joins
returns c = rw (c.is_word_character.ensures, c.is_word_character-2.ensures)
