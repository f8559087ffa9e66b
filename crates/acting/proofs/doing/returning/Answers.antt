-- `returning` meets its contract: the test is that of specs/.
-- Assumes nothing.
use Rattle.numbers.proofs.Kit.{tests}
use Rattle.effects.specs.Effects.{returning}
use Rattle.acting.proofs.doing.returning.Goals as goal

pub returns-then-kept-gt0 : goal.returns-then-kept-gt0
unfolding returning
returns-then-kept-gt0 c = search tests

pub returns : goal.returns
unfolding returning
returns c = search tests
