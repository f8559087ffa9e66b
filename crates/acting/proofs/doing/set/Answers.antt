-- `set` meets its contract: the value of the operand is stored.
-- Assumes nothing.
use Rattle.program.proofs.Results.{got32}
use Rattle.acting.proofs.doing.set.Goals as goal

pub returns : goal.returns
returns c = let x = c.value in simp (got32 _ _ x.type_inv x.ensures) at c.storing.ensures
