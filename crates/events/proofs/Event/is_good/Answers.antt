-- `Event::is_good` meets its contract: by the three kinds.
-- Assumes nothing.
use Rattle.events.specs.Events.{good_event}
use Rattle.events.proofs.Event.is_good.Goals as goal

pub returns : goal.returns
unfolding good_event
returns c = simp (c.is_input.ensures, c.is_arrival.ensures, c.is_place.ensures)
