-- `Event::is_input` meets its contract: the range of I1 is that of 0 and 1.
-- Assumes nothing.
use borrow.Author.Rules.{rules}
use Rattle.program.specs.Variables.{range_of}
use Rattle.events.proofs.Event.is_input.Goals as goal

pub returns : goal.returns
unfolding range_of
returns c = search rules
