-- `first_label_place` meets its contract: the first field of the trailer.
-- Assumes nothing.
use Rattle.image.specs.Layout.{first_label_place}
use Rattle.image.proofs.first_label_place.Goals as goal

pub returns : goal.returns
unfolding first_label_place
returns c = rw (← c.trailer_place.ensures) c.read4.ensures
