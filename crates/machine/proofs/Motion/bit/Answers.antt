-- `Motion::bit` meets its contract: by the kind of motion.
-- Assumes nothing.
use Rattle.machine.specs.Turn.{moving_bit}
use Rattle.machine.proofs.Motion.bit.Goals as goal

pub returns-in-Still : goal.returns-in-Still
unfolding moving_bit
returns-in-Still c = rw c.in-Still.is

pub returns-in-To : goal.returns-in-To
unfolding moving_bit
returns-in-To c = rw c.in-To.is

pub returns-in-Slewing : goal.returns-in-Slewing
unfolding moving_bit
returns-in-Slewing c = rw c.in-Slewing.is
