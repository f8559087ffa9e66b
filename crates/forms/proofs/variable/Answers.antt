-- `variable` meets its contract.
-- Assumes nothing.
use mathlib.Core.Path.{sym, ◌∙◌}
use Rattle.forms.specs.Code.{variable_by}
use Rattle.forms.proofs.variable.Goals as goal

pub returns-then-is_variable : goal.returns-then-is_variable
unfolding variable_by
returns-then-is_variable c = rw (sym c.is_variable.ensures ∙ c.if-is_variable.true)

pub returns : goal.returns
unfolding variable_by
returns c = rw (sym c.is_variable.ensures ∙ c.if-is_variable.false)
