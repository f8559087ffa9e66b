-- `is_too_many` meets its contract.
-- Assumes nothing.
use Rattle.program.specs.Variables.{most_cells, most_labels, most_variables}
use Rattle.names.specs.Code.{too_many_by}
use Rattle.names.proofs.is_too_many.Goals as goal

pub returns-in-Blank : goal.returns-in-Blank
unfolding too_many_by
returns-in-Blank c = rw c.in-Blank.is

pub returns-in-Label : goal.returns-in-Label
unfolding too_many_by most_labels
returns-in-Label c = rw c.in-Label.is

pub returns-in-Declared : goal.returns-in-Declared
unfolding too_many_by most_variables
returns-in-Declared c = rw c.in-Declared.is

pub returns-in-Acts : goal.returns-in-Acts
unfolding too_many_by most_cells
returns-in-Acts c = rw c.in-Acts.is
