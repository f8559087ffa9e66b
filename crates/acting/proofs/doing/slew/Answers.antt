-- `slew` meets its contract: the value of the operand is the velocity.
-- Assumes nothing.
use Rattle.program.proofs.Results.{got32}
use Rattle.acting.proofs.doing.slew.Goals as goal

pub returns : goal.returns
returns c = let x = c.value in simp (got32 _ _ x.type_inv x.ensures) at c.slewing.ensures
