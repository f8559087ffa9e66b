-- `is_literal` meets its contract: the range of a literal, in 64 bits.
-- Assumes nothing.
use mathlib.Core.Path.{◌∙◌}
use Rattle.numbers.proofs.Kit.{fit32, wide, back64}
use Rattle.cells.specs.Code.{literal_bits}
use Rattle.cells.proofs.is_literal.Goals as goal

pub overflow_cast-signed : goal.overflow_cast-signed
overflow_cast-signed c = wide (fit32 c.signed.result c.signed.type_inv)

pub returns : goal.returns
unfolding literal_bits
returns c = simp (back64 (fit32 c.signed.result c.signed.type_inv)) at c.holds.ensures ∙ rw (c.signed.ensures, c.literals.ensures)
