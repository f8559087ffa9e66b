-- `call` meets its contract: the test is the condition.
-- Assumes nothing.
use Rattle.program.proofs.Results.{held, failed}
use Rattle.acting.proofs.doing.call.Goals as goal

pub returns-then-holds : goal.returns-then-holds
returns-then-holds c = simp (held c.holds.ensures c.if-holds.true) c.calling.ensures

pub returns : goal.returns
returns c = simp (failed c.holds.ensures c.if-holds.false)
