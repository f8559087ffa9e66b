-- `Control::handled` meets its contract: by what `keep` ensures.
-- Assumes nothing.
use Rattle.machine.specs.Turn.{no_handler, handled}
use Rattle.machine.proofs.Control.handled.Goals as goal

pub returns : goal.returns
unfolding handled no_handler
returns c = λ vars. rw (c.keep-self.ensures, c.by_handler.ensures)
