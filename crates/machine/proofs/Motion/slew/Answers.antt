-- `Motion::slew` meets its contract: a velocity is 0 where its bits are.
-- Assumes nothing.
use Rattle.numbers.proofs.Kit.{zero_bits, more_bits, back32}
use Rattle.machine.specs.Turn.{slew}
use Rattle.machine.proofs.Motion.slew.Goals as goal

pub returns-then-is_still : goal.returns-then-is_still
unfolding slew
returns-then-is_still c = rw (zero_bits _ c.ranges.velocity c.if-is_still.true)

pub returns : goal.returns
unfolding slew
returns c = simp (more_bits _ c.ranges.velocity c.if-is_still.false, back32 c.ranges.velocity)
