-- `first_form` meets its contract.
-- Assumes nothing.
use Rattle.numbers.proofs.Kit.{tests}
use Rattle.forms.specs.Code.{first_form}
use Rattle.forms.proofs.first_form.Goals as goal

pub returns-in-16972 : goal.returns-in-16972
unfolding first_form
returns-in-16972 c = rw c.in-16972.is

pub returns-in-16726 : goal.returns-in-16726
unfolding first_form
returns-in-16726 c = rw c.in-16726.is

pub returns-in-17225 : goal.returns-in-17225
unfolding first_form
returns-in-17225 c = rw c.in-17225.is

pub returns-in-17220 : goal.returns-in-17220
unfolding first_form
returns-in-17220 c = rw c.in-17220.is

pub returns-in-21058 : goal.returns-in-21058
unfolding first_form
returns-in-21058 c = rw c.in-21058.is

pub returns-in-19523 : goal.returns-in-19523
unfolding first_form
returns-in-19523 c = rw c.in-19523.is

pub returns-in-21586 : goal.returns-in-21586
unfolding first_form
returns-in-21586 c = rw c.in-21586.is

pub returns-in-69 : goal.returns-in-69
unfolding first_form
returns-in-69 c = rw c.in-69.is

pub returns-in-72 : goal.returns-in-72
unfolding first_form
returns-in-72 c = rw c.in-72.is

pub returns-in-17743 : goal.returns-in-17743
unfolding first_form
returns-in-17743 c = rw c.in-17743.is

pub returns-in-16717 : goal.returns-in-16717
unfolding first_form
returns-in-16717 c = rw c.in-16717.is

pub returns-in-21069 : goal.returns-in-21069
unfolding first_form
returns-in-21069 c = rw c.in-21069.is

pub returns-in-19539 : goal.returns-in-19539
unfolding first_form
returns-in-19539 c = rw c.in-19539.is

pub returns-in-21072 : goal.returns-in-21072
unfolding first_form
returns-in-21072 c = rw c.in-21072.is

pub returns-in_default : goal.returns-in_default
unfolding first_form
returns-in_default c = search tests
