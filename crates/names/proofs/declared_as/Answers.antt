-- `declared_as` meets its contract.
-- Assumes nothing.
use mathlib.Core.Path.{sym, ap, ◌∙◌}
use lib.ListN.{length}
use Rattle.rows.proofs.Seeking.{long}
use Rattle.names.proofs.declared_as.Goals as goal

pub slice_bounds-look_up-end : goal.slice_bounds-look_up-end
slice_bounds-look_up-end c = sym (ap length c.arrange-rows.ensures ∙ long _)

pub returns : goal.returns
returns c = rw (← c.arrange-rows.ensures) c.look_up.ensures
