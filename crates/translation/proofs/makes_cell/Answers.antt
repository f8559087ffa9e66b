-- `makes_cell` meets its contract.
-- Assumes nothing.
use Rattle.reading.specs.Code.{in_cell}
use Rattle.translation.proofs.makes_cell.Goals as goal

pub returns-in-Blank : goal.returns-in-Blank
unfolding in_cell
returns-in-Blank c = rw c.in-Blank.is

pub returns-in-Label : goal.returns-in-Label
unfolding in_cell
returns-in-Label c = rw c.in-Label.is

pub returns-in-Declared : goal.returns-in-Declared
unfolding in_cell
returns-in-Declared c = rw c.in-Declared.is

pub returns-in-Acts : goal.returns-in-Acts
unfolding in_cell
returns-in-Acts c = rw c.in-Acts.is
