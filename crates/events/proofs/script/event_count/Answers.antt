-- `event_count` meets its contract: the length in twelves.
-- Assumes nothing.
use mathlib.Core.Path.{refl}
use Rattle.events.specs.Events.{event_count}
use Rattle.events.proofs.script.event_count.Goals as goal

pub returns : goal.returns
unfolding event_count
returns c = refl
