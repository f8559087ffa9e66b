-- `set_moving` meets its contract: MV is set by the motion.
-- Assumes nothing.
use Rattle.program.proofs.Results.{got32}
use Rattle.machine.proofs.turn.set_moving.Goals as goal

pub returns : goal.returns
returns c = simp (got32 _ _ c.bit.type_inv c.bit.ensures)
