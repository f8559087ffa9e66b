-- `mnemonic` meets its contract: the table holds the mnemonics in their order.
-- Assumes nothing.
use Rattle.numbers.specs.Bytes.{ascii, field, number}
use Rattle.program.specs.Names.{mnemonics}
use Rattle.program.specs.Code.{name_of, names_of}
use Rattle.program.proofs.names.mnemonic.Goals as goal

pub returns : goal.returns
unfolding mnemonics ascii names_of name_of field number
returns c = c.key_of.ensures
