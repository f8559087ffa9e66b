-- `stored` meets its contract: the test is that of specs/.
-- Assumes nothing.
use mathlib.Core.Path.{◌≡◌}
use Prim.Native.Nat.{◌+◌, ◌-◌}
use native.Mathlib.Omega.{arith}
use Rattle.numbers.proofs.Kit.{back32}
use Rattle.machine.specs.Turn.{store_record}
use Rattle.machine.proofs.Turns.{output}
use Rattle.machine.proofs.recording.stored.Goals as goal

pub overflow_sub-result : goal.overflow_sub-result
overflow_sub-result c = output c.args.v c.if-v.true

pub returns-then-v : goal.returns-then-v
unfolding store_record
returns-then-v c =
    let h = output c.args.v c.if-v.true in
    let e : (c.args.v - 11) + 1 ≡ c.args.v - 10 = omega arith in
    simp (c.if-v.true, e, back32 c.ranges.value)

pub returns : goal.returns
unfolding store_record
returns c = simp c.if-v.false c.nothing.ensures
