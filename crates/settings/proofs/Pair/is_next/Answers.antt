-- `Pair::is_next` meets its contract.
-- Assumes nothing.
use Rattle.settings.proofs.Pair.is_next.Goals as goal

pub returns : goal.returns
returns c = rw c.is_good.ensures
