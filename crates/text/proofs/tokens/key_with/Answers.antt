-- `key_with` meets its contract.
-- Assumes nothing.
use Rattle.numbers.proofs.Kit.{tests}
use Rattle.text.specs.Code.{key_with}
use Rattle.text.proofs.tokens.key_with.Goals as goal

pub returns-in-0 : goal.returns-in-0
unfolding key_with
returns-in-0 c = rw (c.in-0.is, c.from.ensures)

pub returns-in-1 : goal.returns-in-1
unfolding key_with
returns-in-1 c = rw (c.in-1.is, c.from-in-1.ensures)

pub returns-in_default : goal.returns-in_default
unfolding key_with
returns-in_default c = search tests
