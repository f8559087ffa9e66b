-- `Names::place_of` meets its contract.
-- Assumes nothing.
use Rattle.translation.proofs.Writing.{place_found}
use Rattle.translation.proofs.resolving.Names.place_of.Goals as goal

pub returns : goal.returns
returns c = place_found _ _ c.look_up.ensures
