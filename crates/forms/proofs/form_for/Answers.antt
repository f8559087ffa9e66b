-- `form_for` meets its contract.
-- Assumes nothing.
use native.Mathlib.Omega.{arith}
use Rattle.forms.specs.Code.{form_for}
use Rattle.forms.proofs.Choosing.{first_below_lem}
use Rattle.forms.proofs.form_for.Goals as goal

pub overflow_add-result : goal.overflow_add-result
overflow_add-result c = rw c.first_form-form.ensures (omega (arith, first_below_lem c.args.first))

pub returns-then-is_longer : goal.returns-then-is_longer
unfolding form_for
returns-then-is_longer c = rw (← c.first_form-form.ensures, ← c.is_longer.ensures, c.if-is_longer.true)

pub returns : goal.returns
unfolding form_for
returns c = rw (← c.first_form-form.ensures, ← c.is_longer.ensures, c.if-is_longer.false)
