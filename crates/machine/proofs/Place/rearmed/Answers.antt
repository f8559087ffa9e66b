-- `Place::rearmed` meets its contract: the test is that of specs/.
-- Assumes nothing.
use Rattle.numbers.proofs.Kit.{tests}
use Rattle.machine.specs.Turn.{no_handler, rearmed}
use Rattle.machine.proofs.Place.rearmed.Goals as goal

pub returns-then-self-eq-NO_HANDLER : goal.returns-then-self-eq-NO_HANDLER
unfolding rearmed no_handler
returns-then-self-eq-NO_HANDLER c = search tests

pub returns : goal.returns
unfolding rearmed no_handler
returns c = search tests
