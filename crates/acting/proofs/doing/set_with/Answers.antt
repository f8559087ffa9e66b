-- `set_with` meets its contract: the values of both operands are stored by the operator.
-- Assumes nothing.
use Rattle.program.proofs.Results.{got32}
use Rattle.acting.proofs.doing.set_with.Goals as goal

pub returns : goal.returns
returns c =
    let x = c.value in
    let y = c.value-2 in
    simp (got32 _ _ x.type_inv x.ensures, got32 _ _ y.type_inv y.ensures) at c.storing_with.ensures
