-- `is_unknown_variable` meets its contract.
-- Assumes nothing.
use mathlib.Core.Path.{sym, ◌∙◌}
use Rattle.names.proofs.Asking.{variable_declared, variable_other}
use Rattle.names.proofs.is_unknown_variable.Goals as goal

pub returns-then-is_first : goal.returns-then-is_first
returns-then-is_first c = variable_declared _ _ c.look_up.ensures (sym c.is_first.ensures ∙ c.if-is_first.true)

pub returns : goal.returns
returns c = variable_other _ _ c.look_up.ensures (sym c.is_first.ensures ∙ c.if-is_first.false) c.number_of.ensures
