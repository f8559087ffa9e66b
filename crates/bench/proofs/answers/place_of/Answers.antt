-- `place_of` meets its contract: the test is that of specs/.
-- Assumes nothing.
use Rattle.numbers.proofs.Kit.{tests}
use Rattle.machine.specs.Turn.{no_handler}
use Rattle.bench.specs.Answers.{state_place_of}
use Rattle.bench.proofs.answers.place_of.Goals as goal

pub returns-then-place-eq-NO_HANDLER : goal.returns-then-place-eq-NO_HANDLER
unfolding state_place_of no_handler
returns-then-place-eq-NO_HANDLER c = search tests

pub returns : goal.returns
unfolding state_place_of no_handler
returns c = search tests
