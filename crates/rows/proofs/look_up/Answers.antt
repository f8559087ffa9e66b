-- `look_up` meets its contract.
-- Assumes nothing.
use Rattle.std.proofs.Common.{rules}
use Rattle.rows.specs.Rows.{row_at}
use Rattle.rows.proofs.look_up.Goals as goal

pub returns : goal.returns
unfolding row_at
returns c = rw (← c.row_of.ensures) (search rules)
