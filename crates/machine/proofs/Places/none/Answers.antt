-- `Places::none` meets its contract: the unused place, eight times.
-- Assumes nothing.
use Rattle.machine.proofs.Places.none.Goals as goal

pub returns : goal.returns
returns c = rw c.by_call-unused.ensures
