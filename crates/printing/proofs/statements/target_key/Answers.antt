-- `target_key` meets its contract.
-- Assumes nothing.
use Rattle.std.proofs.Common.{rules}
use borrow.Author.Tests.{eq-eqb, ne_eqb}
use Rattle.program.specs.Cells.{no_target}
use Rattle.printing.specs.Code.{target_key}
use Rattle.printing.proofs.statements.target_key.Goals as goal

pub returns-then-target-eq-NO_TARGET : goal.returns-then-target-eq-NO_TARGET
unfolding target_key no_target
returns-then-target-eq-NO_TARGET c = rw (eq-eqb _ _ c.if-target-eq-NO_TARGET.true)

pub returns : goal.returns
unfolding target_key no_target
returns c = rw (ne_eqb _ _ c.if-target-eq-NO_TARGET.false) (search rules)
