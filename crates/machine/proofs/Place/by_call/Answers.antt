-- `Place::by_call` meets its contract: by the number of no handler.
-- Assumes nothing.
use mathlib.Core.Path.{refl}
use Rattle.machine.specs.Turn.{no_handler}
use Rattle.machine.proofs.Place.by_call.Goals as goal

pub returns : goal.returns
unfolding no_handler
returns c = refl
