-- `Names::resolve_written` meets its contract.
-- Assumes nothing.
use borrow.Author.Tests.{ne_eqb}
use Rattle.translation.proofs.resolving.Names.resolve_written.Goals as goal

pub returns-then-key-eq-NO_NAME : goal.returns-then-key-eq-NO_NAME
returns-then-key-eq-NO_NAME c = rw c.if-key-eq-NO_NAME.true

pub returns : goal.returns
returns c = rw (ne_eqb _ 0 c.if-key-eq-NO_NAME.false) c.number_of.ensures
