-- `no_state` meets its contract: all is 0.
-- Assumes nothing.
use Rattle.bench.specs.Answers.{no_state}
use Rattle.bench.proofs.answers.no_state.Goals as goal

pub returns : goal.returns
unfolding no_state
returns c = rw c.no_place.ensures
