-- `read_first` meets its contract.
-- Assumes nothing.
use mathlib.Core.Path.{◌∙◌}
use Rattle.settings.proofs.read_first.Goals as goal

pub returns : goal.returns
returns c = record { answers = c.answered.ensures ∙ c.read_up_to.ensures }
