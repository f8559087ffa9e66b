-- `read` meets its contract. The loop's invariant: n is the number of the bytes that were passed, from the highest down.
-- Assumes nothing.
use mathlib.Core.Path.{◌≡◌}
use Prim.Native.Nat.{suc, ◌<◌, ◌+◌, ◌-◌}
use native.Mathlib.Nat.{sub_self}
use native.Mathlib.Omega.{arith}
use Rattle.numbers.proofs.Laws.{field_none, read_more, field_seven}
use Rattle.numbers.proofs.read.Goals as goal

-- what was read before this turn leaves room for a byte
small : (c : goal.After-from-b) → c.loop-i.n < 72057594037927936
small c =
    let a = c.args in
    let l = c.loop-i in
    rw l.invariant (field_seven (a.width - l.i) (a.from + l.i) a.s.now (omega arith) (λ k. (c.type_inv.s k).fits))

pub loop-i-init : goal.loop-i-init
loop-i-init c = simp (sub_self, field_none)

pub overflow_mul-n : goal.overflow_mul-n
overflow_mul-n c = omega (arith, small c)

pub overflow_add-n : goal.overflow_add-n
overflow_add-n c = omega (arith, small c, c.from-b.ensures)

pub loop-i-preserved : goal.loop-i-preserved
loop-i-preserved c =
    let a = c.args in
    let l = c.loop-i in
    let e : suc (l.i - 1) ≡ l.i = omega arith in
    rw (read_more a.width (l.i - 1) a.s.now a.from (omega arith), e, ← l.invariant, c.from-b.ensures, c.byte.ensures)
