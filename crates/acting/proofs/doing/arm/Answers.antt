-- `arm` meets its contract.
-- Assumes nothing.
use Rattle.numbers.proofs.Kit.{tests}
use Rattle.program.specs.Cells.{no_target}
use Rattle.acting.proofs.doing.arm.Goals as goal

pub returns-then-target-eq-NO_TARGET : goal.returns-then-target-eq-NO_TARGET
unfolding no_target
returns-then-target-eq-NO_TARGET c = search tests

pub returns : goal.returns
unfolding no_target
returns c = search tests
