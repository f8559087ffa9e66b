-- `target` meets its contract.
-- Assumes nothing.
use mathlib.Core.Logic.{⊎_elim}
use Rattle.program.specs.Cells.{no_target}
use Rattle.reading.specs.Code.{target_by}
use Rattle.reading.proofs.cells.target.Goals as goal

pub returns-in-NoOperand : goal.returns-in-NoOperand
unfolding target_by
returns-in-NoOperand c = ⊎_elim (λ e. rw e) (λ q. ⊎_elim (λ e. rw e) (λ e. rw e) q) c.in-NoOperand.is

pub returns-in-NoTarget : goal.returns-in-NoTarget
unfolding target_by no_target
returns-in-NoTarget c = rw c.in-NoTarget.is
