-- `Pair::is_good` meets its contract: its tests are those of the definition.
-- Assumes nothing.
use Rattle.settings.specs.Layout.{good_pair}
use Rattle.settings.proofs.Pair.is_good.Goals as goal

pub returns : goal.returns
unfolding good_pair
returns c = rw c.from-v.ensures
