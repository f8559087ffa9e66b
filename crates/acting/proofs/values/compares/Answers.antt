-- `compares` meets its contract: the comparisons by number; two numbers are equal where their bits are.
-- Assumes nothing.
use mathlib.Core.Path.{ap}
use mathlib.Core.Bool.{not}
use Rattle.numbers.proofs.Kit.{tests, back32, same_bits}
use Rattle.program.specs.Cells.{comparison_of}
use Rattle.effects.specs.Effects.{compares}
use Rattle.acting.proofs.values.compares.Goals as goal

pub returns-in-1 : goal.returns-in-1
unfolding compares comparison_of
returns-in-1 c = rw c.in-1.is (same_bits _ _ c.ranges.x c.ranges.y)

pub returns-in-2 : goal.returns-in-2
unfolding compares comparison_of
returns-in-2 c = rw c.in-2.is (ap not (same_bits _ _ c.ranges.x c.ranges.y))

pub returns-in-3 : goal.returns-in-3
unfolding compares comparison_of
returns-in-3 c = simp (back32 c.ranges.x, back32 c.ranges.y, c.in-3.is)

pub returns-in-4 : goal.returns-in-4
unfolding compares comparison_of
returns-in-4 c = simp (back32 c.ranges.x, back32 c.ranges.y, c.in-4.is)

pub returns-in-5 : goal.returns-in-5
unfolding compares comparison_of
returns-in-5 c = simp (back32 c.ranges.x, back32 c.ranges.y, c.in-5.is)

pub returns-in_default : goal.returns-in_default
unfolding compares comparison_of
returns-in_default c = simp (back32 c.ranges.x, back32 c.ranges.y) (search tests)
