-- `Machine::fresh` meets its contract: the stores are those of specs/.
-- Assumes nothing.
use Rattle.program.specs.Variables.{start_variables}
use Rattle.machine.specs.Turn.{no_handler, start_machine}
use Rattle.machine.proofs.Machine.fresh.Goals as goal

pub returns : goal.returns
unfolding start_machine start_variables no_handler
returns c = rw c.none.ensures
