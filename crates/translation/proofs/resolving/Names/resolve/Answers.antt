-- `Names::resolve` meets its contract.
-- Assumes nothing.
use Rattle.translation.proofs.resolving.Names.resolve.Goals as goal

pub returns : goal.returns
returns c =
    rw (c.resolve_written-written.ensures, c.resolve_operand-left.ensures, c.resolve_operand-right.ensures, c.resolve_target-target.ensures)
