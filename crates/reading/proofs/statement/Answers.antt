-- `statement` meets its contract.
-- Assumes nothing.
use Rattle.numbers.proofs.Kit.{tests}
use Rattle.reading.specs.Code.{statement_by}
use Rattle.reading.proofs.statement.Goals as goal

pub returns-then-ts-eq0 : goal.returns-then-ts-eq0
unfolding statement_by
returns-then-ts-eq0 c = search tests

pub returns-then-ts-eq-MOST : goal.returns-then-ts-eq-MOST
unfolding statement_by
returns-then-ts-eq-MOST c = search tests

pub returns : goal.returns
unfolding statement_by
returns c = rw c.by_form.ensures (search tests)
