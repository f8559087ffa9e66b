-- `slewing` meets its contract: the test of range is that of SL.
-- Assumes nothing.
use Rattle.numbers.proofs.Kit.{wide, back32, back64}
use Rattle.effects.specs.Effects.{slewing}
use Rattle.program.proofs.Results.{tested, held, failed}
use Rattle.acting.proofs.doing.slewing.Goals as goal

pub overflow_cast-x : goal.overflow_cast-x
overflow_cast-x c = wide c.ranges.x

pub returns-then-holds : goal.returns-then-holds
unfolding slewing
returns-then-holds c =
    let f = c.ranges.x in
    simp (back32 f, held (tested c.holds.ensures c.slew_range.ensures (back64 f)) c.if-holds.true)

pub returns : goal.returns
unfolding slewing
returns c =
    let f = c.ranges.x in
    simp (failed (tested c.holds.ensures c.slew_range.ensures (back64 f)) c.if-holds.false)
