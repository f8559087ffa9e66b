-- `is_big` meets its contract.
-- Assumes nothing.
use mathlib.Core.Path.{sym}
use Rattle.forms.specs.Code.{value_of}
use Rattle.text.specs.Faults.{big_value}
use Rattle.reading.proofs.Values.{big_size}
use Rattle.reading.proofs.cells.is_big.Goals as goal

pub returns-in-Literal : goal.returns-in-Literal
unfolding big_value value_of
returns-in-Literal c = rw c.in-Literal.is (sym (big_size c.in-Literal.field-0 c.in-Literal.size))

pub returns-in-Variable : goal.returns-in-Variable
unfolding big_value value_of
returns-in-Variable c = rw c.in-Variable.is
