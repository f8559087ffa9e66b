-- `name_key` meets its contract.
-- Assumes nothing.
use mathlib.Core.Path.{◌≡◌}
use Prim.Native.Nat.{◌%◌}
use native.Mathlib.Omega.{arith}
use borrow.Author.Tests.{ne_eqb}
use Rattle.printing.specs.Code.{name_key, name_after}
use Rattle.printing.proofs.statements.name_key.Goals as goal

pub returns-then-written-ne0 : goal.returns-then-written-ne0
unfolding name_after name_key
returns-then-written-ne0 c =
    let b = c.byte-written in
    let e : b.result % 256 ≡ b.result = omega arith in
    rw (← b.ensures, ne_eqb _ 0 c.if-written-ne0.true, e) c.variable_key.ensures

pub returns-then-is_jump-operation : goal.returns-then-is_jump-operation
unfolding name_after name_key
returns-then-is_jump-operation c =
    rw (← c.byte-written.ensures, ← c.is_jump.ensures, c.if-written-ne0.false, c.if-is_jump-operation.true, ← c.read2.ensures) c.target_key.ensures

pub returns : goal.returns
unfolding name_after name_key
returns c = rw (← c.byte-written.ensures, ← c.is_jump.ensures, c.if-written-ne0.false, c.if-is_jump-operation.false)
