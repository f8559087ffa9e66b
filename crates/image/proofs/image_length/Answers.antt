-- `image_length` meets its contract: the sum as it stands.
-- Assumes nothing.
use Rattle.image.specs.Layout.{image_length}
use Rattle.image.proofs.image_length.Goals as goal

pub returns : goal.returns
unfolding image_length
returns c = rw (c.from.ensures, c.from-2.ensures, c.from-3.ensures)
