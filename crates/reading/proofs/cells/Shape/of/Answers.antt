-- `Shape::of` meets its contract.
-- Assumes nothing.
use Rattle.numbers.proofs.Kit.{tests}
use Rattle.reading.specs.Code.{shape_of}
use Rattle.reading.proofs.cells.Shape.of.Goals as goal

pub returns-in-1 : goal.returns-in-1
unfolding shape_of
returns-in-1 c = rw c.in-1.is

pub returns-in-2 : goal.returns-in-2
unfolding shape_of
returns-in-2 c = rw c.in-2.is

pub returns-in-3 : goal.returns-in-3
unfolding shape_of
returns-in-3 c = rw c.in-3.is

pub returns-in_default : goal.returns-in_default
unfolding shape_of
returns-in_default c = search tests
