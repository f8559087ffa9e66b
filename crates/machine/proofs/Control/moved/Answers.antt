-- `Control::moved` meets its contract: by what `onward` ensures.
-- Assumes nothing.
use lib.ListN.{set}
use Rattle.machine.specs.Turn.{in_motion, moving_bit}
use Rattle.machine.proofs.Control.moved.Goals as goal

pub returns : goal.returns
unfolding in_motion
returns c = λ vars. c.onward.ensures (set vars 14 (moving_bit c.args.motion))
