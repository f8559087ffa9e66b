-- `is_word_character` meets its contract.
-- Assumes nothing.
use Rattle.program.specs.Names.{word_character}
use Rattle.text.proofs.tokens.is_word_character.Goals as goal

pub returns : goal.returns
unfolding word_character
returns c = rw (c.is_letter.ensures, c.is_digit.ensures)
