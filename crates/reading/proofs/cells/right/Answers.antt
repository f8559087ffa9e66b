-- `right` meets its contract.
-- Assumes nothing.
use mathlib.Core.Logic.{⊎_elim}
use Rattle.reading.specs.Code.{right_by}
use Rattle.reading.proofs.cells.right.Goals as goal

pub returns-in-NoOperand : goal.returns-in-NoOperand
unfolding right_by
returns-in-NoOperand c = ⊎_elim (λ e. rw e) (λ q. ⊎_elim (λ e. rw e) (λ e. rw e) q) c.in-NoOperand.is

pub returns-in-Two : goal.returns-in-Two
unfolding right_by
returns-in-Two c = rw c.in-Two.is c.operand.ensures
