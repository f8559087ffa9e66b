-- `ends` meets its contract.
-- Assumes nothing.
use Rattle.text.specs.Code.{ends}
use Rattle.text.proofs.tokens.ends.Goals as goal

pub returns : goal.returns
unfolding ends
returns c = rw c.joins.ensures
