-- `flag` meets its contract: the error is the same number in 32 bits.
-- Assumes nothing.
use Rattle.machine.proofs.Kit.{byte_up}
use Rattle.machine.proofs.turn.flag.Goals as goal

pub returns : goal.returns
returns c = rw (byte_up c.ranges.error)
