-- `is_variable` meets its contract.
-- Assumes nothing.
use Rattle.numbers.proofs.Kit.{tests}
use Rattle.text.specs.Forms.{variable_name}
use Rattle.forms.proofs.is_variable.Goals as goal

pub returns-then-number_of-ne0 : goal.returns-then-number_of-ne0
unfolding variable_name
returns-then-number_of-ne0 c = rw (← c.number_of.ensures) (search tests)

pub returns : goal.returns
unfolding variable_name
returns c = rw (← c.number_of.ensures, ← c.is_user_name.ensures) (search tests)
