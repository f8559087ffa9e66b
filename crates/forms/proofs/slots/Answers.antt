-- `slots` meets its contract: the table is that of the definition.
-- Assumes nothing.
use mathlib.Core.Path.{refl}
use Rattle.forms.specs.Code.{slot_table, slots_of}
use Rattle.forms.proofs.slots.Goals as goal

pub returns : goal.returns
unfolding slots_of slot_table
returns c = refl
