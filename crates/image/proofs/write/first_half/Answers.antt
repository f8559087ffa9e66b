-- `write::first_half` meets its contract: its parts, one behind the other.
-- Assumes nothing.
use native.Mathlib.Omega.{arith}
use Rattle.image.proofs.Laws.{shape_small, first_packed}
use Rattle.image.proofs.write.first_half.Goals as goal

pub overflow_mul-shapes : goal.overflow_mul-shapes
overflow_mul-shapes c = omega (arith, shape_small c.args.c.right, c.shape-2.ensures)

pub overflow_add-shapes : goal.overflow_add-shapes
overflow_add-shapes c = let a = c.args in omega (arith, shape_small a.c.right, c.shape-2.ensures, shape_small a.c.left, c.shape.ensures)

pub returns : goal.returns
returns c =
    first_packed c.args.c (rw (c.shape-2.ensures, c.shape.ensures)) c.operand_number.ensures
    c.two_bytes-front.ensures c.two_bytes.ensures c.four_bytes-head.ensures c.eight_bytes.ensures
