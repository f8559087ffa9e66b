-- `is_unknown_written` meets its contract.
-- Assumes nothing.
use mathlib.Core.Path.{◌∙◌}
use Rattle.names.specs.Code.{unknown_written}
use borrow.Author.Tests.{ne_eqb}
use Rattle.names.proofs.is_unknown_written.Goals as goal

pub returns-then-key-eq-NO_NAME : goal.returns-then-key-eq-NO_NAME
unfolding unknown_written
returns-then-key-eq-NO_NAME c = rw c.if-key-eq-NO_NAME.true

pub returns : goal.returns
unfolding unknown_written
returns c = c.is_unknown_variable.ensures ∙ rw (ne_eqb _ 0 c.if-key-eq-NO_NAME.false)
