-- `bad_edition` meets its contract: the test as it stands.
-- Assumes nothing.
use Rattle.image.specs.Check.{bad_edition}
use Rattle.checking.proofs.bad_edition.Goals as goal

pub returns : goal.returns
unfolding bad_edition
returns c = rw c.edition.ensures
