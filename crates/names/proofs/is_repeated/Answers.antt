-- `is_repeated` meets its contract.
-- Assumes nothing.
use mathlib.Core.Path.{◌∙◌}
use mathlib.Core.Logic.{⊎_elim}
use Rattle.reading.specs.Code.{in_declared}
use Rattle.names.specs.Code.{repeated_by}
use Rattle.names.proofs.Asking.{repeated_found}
use Rattle.names.proofs.is_repeated.Goals as goal

pub returns-in-Blank : goal.returns-in-Blank
unfolding repeated_by in_declared
returns-in-Blank c = ⊎_elim (λ e. rw e) (λ p. rw p.1) c.in-Blank.is

pub returns-in-Label : goal.returns-in-Label
returns-in-Label c = c.is_earlier.ensures ∙ repeated_found _ _ c.in-Label.is c.look_up.ensures
