-- `refused` meets its contract.
-- Assumes nothing.
use Rattle.bench.specs.Answers.{refused_as}
use Rattle.bench.proofs.answers.refused.Goals as goal

pub returns : goal.returns
unfolding refused_as
returns c = rw (c.number.ensures, c.index.ensures, c.no_state.ensures)
