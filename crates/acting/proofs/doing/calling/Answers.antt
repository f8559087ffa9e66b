-- `calling` meets its contract: the test is that of specs/.
-- Assumes nothing.
use Rattle.numbers.proofs.Kit.{tests}
use Rattle.effects.specs.Effects.{calling}
use Rattle.acting.proofs.doing.calling.Goals as goal

pub returns-then-is_free : goal.returns-then-is_free
unfolding calling
returns-then-is_free c = search tests

pub returns : goal.returns
unfolding calling
returns c = search tests
