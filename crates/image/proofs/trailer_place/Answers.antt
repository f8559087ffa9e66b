-- `trailer_place` meets its contract: a difference that stops at 0.
-- Assumes nothing.
use Rattle.image.specs.Layout.{trailer_place}
use Rattle.image.proofs.trailer_place.Goals as goal

pub returns : goal.returns
unfolding trailer_place
returns c = c.saturating_sub.ensures
