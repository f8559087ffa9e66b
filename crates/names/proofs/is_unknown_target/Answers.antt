-- `is_unknown_target` meets its contract.
-- Assumes nothing.
use Rattle.names.proofs.Asking.{no_target_lem, target_sought}
use Rattle.names.proofs.is_unknown_target.Goals as goal

pub returns-then-target : goal.returns-then-target
returns-then-target c = no_target_lem _ _ c.if-target.true

pub returns : goal.returns
returns c = rw (c.is_first.ensures, c.look_up.ensures) (target_sought _ _ c.if-target.false)
