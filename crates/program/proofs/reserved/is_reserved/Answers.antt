-- `is_reserved` meets its contract: the table holds the words of the drives, and they rise.
-- Assumes nothing.
use Rattle.numbers.specs.Bytes.{ascii, field, number}
use Rattle.numbers.specs.Tests.{all_below}
use Rattle.program.specs.DriveWords.{drive_words}
use Rattle.program.specs.Names.{reserved}
use Rattle.program.specs.Code.{name_of, names_of, rising}
use Rattle.program.proofs.reserved.is_reserved.Goals as goal

pub is_among-requires : goal.is_among-requires
unfolding rising all_below
is_among-requires c = tt

pub returns : goal.returns
unfolding reserved drive_words ascii names_of name_of number field
returns c = c.is_among.ensures
