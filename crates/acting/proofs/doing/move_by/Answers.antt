-- `move_by` meets its contract: the target is P and the value of the operand.
-- Assumes nothing.
use Rattle.program.proofs.Results.{got32, got64}
use Rattle.acting.proofs.doing.move_by.Goals as goal

pub returns : goal.returns
returns c =
    let x = c.value-x in
    let p = c.read in
    let s = c.sum in
    simp (got64 _ _ s.type_inv (simp (got32 _ _ x.type_inv x.ensures, got32 _ _ p.type_inv p.ensures) at s.ensures), got32 _ _ x.type_inv x.ensures) at c.moving.ensures
