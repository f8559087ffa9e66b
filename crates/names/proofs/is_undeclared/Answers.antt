-- `is_undeclared` meets its contract.
-- Assumes nothing.
use Rattle.names.specs.Code.{unknown_cell}
use Rattle.names.proofs.is_undeclared.Goals as goal

pub returns : goal.returns
unfolding unknown_cell
returns c =
    rw (c.is_unknown_target-target.ensures, c.is_unknown_written-written.ensures, c.is_unknown_operand-first.ensures, c.is_unknown_operand-second.ensures)
