-- `fewer_if` meets its contract.
-- Assumes nothing.
use Rattle.translation.specs.Code.{fewer}
use Rattle.translation.proofs.fewer_if.Goals as goal

pub returns-then-test : goal.returns-then-test
unfolding fewer
returns-then-test c = rw c.if-test.true c.saturating_sub.ensures

pub returns : goal.returns
unfolding fewer
returns c = rw c.if-test.false
