-- `longer` meets its contract: the larger of two counts.
-- Assumes nothing.
use mathlib.Core.Path.{ap₂, ◌∙◌}
use Prim.Native.Nat.{max}
use Rattle.comparing.proofs.Sides.longer.Goals as goal

pub returns : goal.returns
returns c = c.max.ensures ∙ ap₂ max c.event_count.ensures c.event_count-2.ensures
