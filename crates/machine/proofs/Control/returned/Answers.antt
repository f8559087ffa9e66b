-- `Control::returned` meets its contract: by what `last_place`, `rearmed` and `release` ensure.
-- Assumes nothing.
use Rattle.machine.specs.Turn.{returned}
use Rattle.machine.proofs.Control.returned.Goals as goal

pub returns : goal.returns
unfolding returned
returns c = λ vars. rw (c.rearmed.ensures, c.last_place-place.ensures, c.release-self.ensures)
