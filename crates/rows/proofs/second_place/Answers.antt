-- `second_place` meets its contract.
-- Assumes nothing.
use borrow.Author.Tests.{le-leb, lt-leb}
use Rattle.rows.specs.Rows.{second_place}
use Rattle.rows.proofs.Order.{second_least, letter_least}
use Rattle.rows.proofs.second_place.Goals as goal

pub overflow_sub-result : goal.overflow_sub-result
overflow_sub-result c = second_least _ c.requires

pub returns-then-character : goal.returns-then-character
unfolding second_place
returns-then-character c = rw (le-leb _ 57 c.if-character.true)

pub overflow_sub-result-2 : goal.overflow_sub-result-2
overflow_sub-result-2 c = letter_least _ c.requires c.if-character.false

pub returns : goal.returns
unfolding second_place
returns c = rw (lt-leb _ 57 c.if-character.false)
