-- `give` meets its contract: the bytes over the front of the buffer.
-- Assumes nothing.
use Rattle.printing.proofs.Room.{too_short_lem, in_room}
use Rattle.printing.proofs.give.Goals as goal

pub returns-then-bytes-text : goal.returns-then-bytes-text
returns-then-bytes-text c = in_room _ _ c.if-bytes-text.true c.copy_from_slice.ensures.after

pub returns-else-bytes-text : goal.returns-else-bytes-text
returns-else-bytes-text c = too_short_lem _ _ c.if-bytes-text.false
