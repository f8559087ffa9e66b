-- `move_to` meets its contract: the value of the operand is the target.
-- Assumes nothing.
use Rattle.numbers.proofs.Kit.{wide, fit32}
use Rattle.program.proofs.Results.{got32, widened}
use Rattle.acting.proofs.doing.move_to.Goals as goal

pub overflow_cast-x : goal.overflow_cast-x
overflow_cast-x c = wide {z = c.value-x.result} (fit32 _ c.value-x.type_inv)

pub returns : goal.returns
returns c =
    let x = c.value-x in
    simp (got32 _ _ x.type_inv x.ensures) at (rw (widened _ _ x.type_inv x.ensures) at c.moving.ensures)
