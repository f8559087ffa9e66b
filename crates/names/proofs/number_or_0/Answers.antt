-- `number_or_0` meets its contract.
-- Assumes nothing.
use Rattle.names.specs.Code.{lowest_number}
use Rattle.names.proofs.number_or_0.Goals as goal

pub returns-in-Ok : goal.returns-in-Ok
unfolding lowest_number
returns-in-Ok c = rw c.in-Ok.is

pub returns-in-Err : goal.returns-in-Err
unfolding lowest_number
returns-in-Err c = rw c.in-Err.is c.number.ensures
