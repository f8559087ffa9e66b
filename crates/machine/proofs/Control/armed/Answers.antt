-- `Control::armed` meets its contract: by what `calls_only` ensures.
-- Assumes nothing.
use Rattle.machine.specs.Turn.{armed}
use Rattle.machine.proofs.Control.armed.Goals as goal

pub returns : goal.returns
unfolding armed
returns c = λ vars. rw c.calls_only-self.ensures
