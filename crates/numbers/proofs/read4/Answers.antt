-- `read4` meets its contract: a field of 4 bytes is below 256 ^ 4.
-- Assumes nothing.
use Rattle.numbers.proofs.Laws.{field_below}
use Rattle.numbers.proofs.read4.Goals as goal

pub overflow_cast-result : goal.overflow_cast-result
overflow_cast-result c = record { fits = rw c.read.ensures (field_below 4 _ _ (λ k. (c.type_inv.s k).fits)) }
