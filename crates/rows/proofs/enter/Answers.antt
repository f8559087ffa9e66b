-- `enter` meets its contract.
-- Assumes nothing.
use Rattle.rows.proofs.Seeking.{enter_past, enter_there, enter_new}
use Rattle.rows.proofs.enter.Goals as goal

pub returns-then-rows-i : goal.returns-then-rows-i
returns-then-rows-i c = enter_past _ _ c.row_of-i.ensures _ c.if-rows-i.true

pub returns-then-is_taken : goal.returns-then-is_taken
returns-then-is_taken c = enter_there _ _ c.row_of-i.ensures _ c.if-is_taken.true

pub returns : goal.returns
returns c = enter_new _ _ c.row_of-i.ensures _ c.if-is_taken.false
