-- `Control::called` meets its contract: by what `keep` ensures.
-- Assumes nothing.
use Rattle.machine.specs.Turn.{called}
use Rattle.machine.proofs.Control.called.Goals as goal

pub returns : goal.returns
unfolding called
returns c = λ vars. rw (c.keep-self.ensures, c.by_call.ensures)
