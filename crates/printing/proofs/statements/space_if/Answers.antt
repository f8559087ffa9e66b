-- `space_if` meets its contract.
-- Assumes nothing.
use mathlib.Core.Path.{refl}
use Rattle.printing.specs.Code.{packed, packed_in, if_so}
use Rattle.printing.proofs.statements.space_if.Goals as goal

pub returns-then-test : goal.returns-then-test
unfolding packed packed_in if_so
returns-then-test c = rw c.if-test.true refl

pub returns-else-test : goal.returns-else-test
unfolding packed packed_in if_so
returns-else-test c = rw c.if-test.false refl
