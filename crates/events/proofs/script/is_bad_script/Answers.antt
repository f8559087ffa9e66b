-- `is_bad_script` meets its contract: the tests are those of specs/.
-- Assumes nothing.
use mathlib.Core.Path.{refl}
use Rattle.events.specs.Events.{bad_script, event_count}
use Rattle.events.proofs.script.is_bad_script.Goals as goal

pub returns : goal.returns
unfolding bad_script event_count
returns c = refl
