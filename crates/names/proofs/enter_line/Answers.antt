-- `enter_line` meets its contract.
-- Assumes nothing.
use mathlib.Core.Logic.{⊎_elim}
use Rattle.names.specs.Code.{entered_by}
use Rattle.names.proofs.enter_line.Goals as goal

pub returns-in-Blank : goal.returns-in-Blank
unfolding entered_by
returns-in-Blank c = ⊎_elim (λ e. rw e) (λ p. rw p.1) c.in-Blank.is

pub returns-in-Label : goal.returns-in-Label
unfolding entered_by
returns-in-Label c = rw c.in-Label.is c.enter.ensures

pub returns-in-Declared : goal.returns-in-Declared
unfolding entered_by
returns-in-Declared c = rw c.in-Declared.is c.enter-in-Declared.ensures
