-- `left` meets its contract.
-- Assumes nothing.
use mathlib.Core.Logic.{⊎_elim}
use Rattle.reading.specs.Code.{left_by}
use Rattle.reading.proofs.cells.left.Goals as goal

pub returns-in-NoOperand : goal.returns-in-NoOperand
unfolding left_by
returns-in-NoOperand c = ⊎_elim (λ e. rw e) (λ e. rw e) c.in-NoOperand.is

pub returns-in-One : goal.returns-in-One
unfolding left_by
returns-in-One c = ⊎_elim (λ e. rw e c.operand.ensures) (λ e. rw e c.operand.ensures) c.in-One.is
