-- `is_paper_word` meets its contract: the table holds the mnemonics.
-- Assumes nothing.
use mathlib.Core.Path.{◌≡◌, ap, ◌∙◌}
use mathlib.Core.Bool.{not}
use lib.Dec.{eqb}
use Rattle.std.specs.Option.{is_some}
use Rattle.numbers.specs.Bytes.{ascii, field, number}
use Rattle.numbers.specs.Tests.{numbered}
use Rattle.program.specs.Names.{mnemonics, paper_word}
use Rattle.program.specs.Code.{name_of, names_of}
use Rattle.program.proofs.Places.{is_placed}
use Rattle.program.proofs.names.is_paper_word.Goals as goal

mnemonic : (c : goal.After-number_of) → is_some c.place_in.result ≡ not (eqb (numbered mnemonics (name_of c.args.key)) 0)
unfolding mnemonics ascii names_of name_of field number
mnemonic c = ap is_some c.place_in.ensures ∙ is_placed _

pub returns : goal.returns
unfolding paper_word
returns c = rw (c.is_some.ensures, mnemonic c, c.number_of.ensures)
