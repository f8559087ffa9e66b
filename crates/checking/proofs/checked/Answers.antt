-- `checked` meets its contract: the number of what `accept` answers.
-- Assumes nothing.
use mathlib.Core.Path.{sym, ap, ◌∙◌}
use Rattle.checking.specs.Code.{refusal_number}
use Rattle.checking.proofs.checked.Goals as goal

pub returns-in-Ok : goal.returns-in-Ok
unfolding refusal_number
returns-in-Ok c = sym (ap refusal_number c.in-Ok.is) ∙ c.accept.ensures

pub returns-in-Err : goal.returns-in-Err
unfolding refusal_number
returns-in-Err c = c.number.ensures ∙ sym (ap refusal_number c.in-Err.is) ∙ c.accept.ensures
