-- `Control::stops` meets its contract: only an error stops a run.
-- Assumes nothing.
use Rattle.machine.specs.Turn.{no_handler, applied}
use Rattle.machine.specs.Code.{joined}
use Rattle.machine.proofs.Turns.{error_stops, runs_on}
use Rattle.machine.proofs.Control.stops.Goals as goal

pub returns-in-Fails : goal.returns-in-Fails
unfolding applied no_handler
returns-in-Fails c = λ cells vars. rw c.in-Fails.is (error_stops _ (joined vars c.args.self))

pub returns-in_default : goal.returns-in_default
returns-in_default c = λ cells vars. runs_on c.args.does cells (joined vars c.args.self) c.in_default.not-Fails
