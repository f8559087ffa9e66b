-- `literal` meets its contract.
-- Assumes nothing.
use Rattle.forms.specs.Code.{literal_by}
use Rattle.forms.proofs.literal.Goals as goal

pub returns-in-Some : goal.returns-in-Some
unfolding literal_by
returns-in-Some c = rw c.in-Some.is

pub returns-in_err-size : goal.returns-in_err-size
unfolding literal_by
returns-in_err-size c = rw (c.from_residual.ensures, c.in_default.is, c.if-t.true, c.in_err-size.was)

pub returns-then-t : goal.returns-then-t
unfolding literal_by
returns-then-t c = rw (c.in_default.is, c.if-t.true, c.in_ok-size.was)

pub returns : goal.returns
unfolding literal_by
returns c = rw (c.in_default.is, c.if-t.false)
