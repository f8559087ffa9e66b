-- `by_form` meets its contract.
-- Assumes nothing.
use mathlib.Core.Path.{◌∙◌}
use Rattle.text.specs.Code.{token_at}
use Rattle.forms.proofs.Choosing.{form_below}
use Rattle.reading.proofs.Parts.{form_fits, form_not, form_none}
use Rattle.reading.proofs.by_form.Goals as goal

pub fill-requires : goal.fill-requires
fill-requires c = rw c.form_for-form.ensures (form_below _ _ _)

pub read-requires : goal.read-requires
read-requires c = rw c.form_for-form.ensures (form_below _ _ _)

pub returns-in_default : goal.returns-in_default
unfolding token_at
returns-in_default c =
    form_none _ c.form_for-form.ensures c.fill.ensures c.in_default.is

pub returns-then-m-ts : goal.returns-then-m-ts
unfolding token_at
returns-then-m-ts c =
    c.read.ensures ∙ form_fits _ c.form_for-form.ensures c.fill.ensures c.in-Ok.is c.if-m-ts.true

pub returns : goal.returns
unfolding token_at
returns c =
    form_not _ c.form_for-form.ensures c.fill.ensures c.in-Ok.is c.if-m-ts.false
