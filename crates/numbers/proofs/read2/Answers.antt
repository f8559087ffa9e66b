-- `read2` meets its contract: a field of 2 bytes is below 256 ^ 2.
-- Assumes nothing.
use Rattle.numbers.proofs.Laws.{field_below}
use Rattle.numbers.proofs.read2.Goals as goal

pub overflow_cast-result : goal.overflow_cast-result
overflow_cast-result c = record { fits = rw c.read.ensures (field_below 2 _ _ (λ k. (c.type_inv.s k).fits)) }
