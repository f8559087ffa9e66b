-- `writes_read_only` meets its contract.
-- Assumes nothing.
use Rattle.names.specs.Code.{read_only_key}
use Rattle.names.proofs.writes_read_only.Goals as goal

pub returns : goal.returns
unfolding read_only_key
returns c = rw (c.is_read_only.ensures, c.number_of-number.ensures)
