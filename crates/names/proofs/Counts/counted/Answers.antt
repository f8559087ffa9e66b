-- `Counts::counted` meets its contract.
-- Assumes nothing.
use Rattle.names.specs.Code.{counted}
use Rattle.names.proofs.Counts.counted.Goals as goal

pub returns-in-Blank : goal.returns-in-Blank
unfolding counted
returns-in-Blank c = rw c.in-Blank.is

pub returns-in-Label : goal.returns-in-Label
unfolding counted
returns-in-Label c = rw c.in-Label.is

pub returns-in-Declared : goal.returns-in-Declared
unfolding counted
returns-in-Declared c = rw c.in-Declared.is

pub returns-in-Acts : goal.returns-in-Acts
unfolding counted
returns-in-Acts c = rw c.in-Acts.is
