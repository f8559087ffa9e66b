-- `selector` meets its contract.
-- Assumes nothing.
use mathlib.Core.Logic.{⊎_elim}
use borrow.Author.Tests.{ne_eqb}
use Rattle.reading.specs.Code.{selector_by}
use Rattle.reading.proofs.cells.selector.Goals as goal

pub returns-in-NoOperand : goal.returns-in-NoOperand
unfolding selector_by
returns-in-NoOperand c = ⊎_elim (λ e. rw e) (λ q. ⊎_elim (λ e. rw e) (λ e. rw e) q) c.in-NoOperand.is

pub returns-in-Two : goal.returns-in-Two
unfolding selector_by
returns-in-Two c = rw (c.in-Two.is, c.if-operation-eq-SET_WITH.true) c.operator_number.ensures

pub returns-in-Two-2 : goal.returns-in-Two-2
unfolding selector_by
returns-in-Two-2 c = rw (c.in-Two-2.is, ne_eqb _ 2 c.if-operation-eq-SET_WITH.false) c.comparison_number.ensures
