-- `Settings::fresh` meets its contract: the start values of the table.
-- Assumes nothing.
use mathlib.Core.Path.{refl}
use Rattle.settings.specs.Sets.{fresh_settings}
use Rattle.settings.proofs.Settings.fresh.Goals as goal

pub returns : goal.returns
unfolding fresh_settings
returns c = refl
