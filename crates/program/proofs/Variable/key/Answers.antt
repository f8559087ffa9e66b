-- `Variable::key` meets its contract: the table holds the paper's names in their order.
-- Assumes nothing.
use Rattle.numbers.specs.Bytes.{ascii, field, number}
use Rattle.program.specs.Names.{variable_names}
use Rattle.program.specs.Code.{name_of, names_of}
use Rattle.program.proofs.Variable.key.Goals as goal

pub returns : goal.returns
unfolding variable_names ascii names_of name_of field number
returns c = c.key_of.ensures
