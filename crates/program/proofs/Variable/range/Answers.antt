-- `Variable::range` meets its contract: the cases are those of `range-tested`.
-- Assumes nothing.
use mathlib.Core.Path.{refl}
use mir.Syntax.{w64}
use mir.Facts.{to_z-of_z}
use Rattle.numbers.proofs.Kit.{tests, wide, back64, more64, less64}
use Rattle.program.proofs.Ranges.{range_tested}
use Rattle.program.proofs.Variable.range.Goals as goal
use Rattle.program.proofs.Variable.range.Goals.{in_default-via-then-self-lt6, in_default-via-else-self-lt6+else-self-lt8+else-self-lt20}
use Rattle.program.specs.Variables.{range_of}

pub overflow_cast-result : goal.overflow_cast-result
overflow_cast-result c = wide c.ranges.vm

pub overflow_sub-result : goal.overflow_sub-result
overflow_sub-result c = let f = c.ranges.vm in rw (back64 f) (less64 f)

pub returns-in-8 : goal.returns-in-8
unfolding range_of
returns-in-8 c = let f = c.ranges.vm in simp (c.in-8.is, back64 f, to_z-of_z {w = w64} (less64 f)) refl

pub overflow_cast-result-in-9 : goal.overflow_cast-result-in-9
overflow_cast-result-in-9 c = wide c.ranges.vi

pub overflow_add-result : goal.overflow_add-result
overflow_add-result c = let f = c.ranges.vi in rw (back64 f) (more64 f)

pub returns-in-9 : goal.returns-in-9
unfolding range_of
returns-in-9 c = let f = c.ranges.vi in simp (c.in-9.is, back64 f, to_z-of_z {w = w64} (more64 f)) refl

pub returns-in-10 : goal.returns-in-10
unfolding range_of
returns-in-10 c = rw c.in-10.is refl

pub returns-in-20 : goal.returns-in-20
unfolding range_of
returns-in-20 c = rw c.in-20.is refl

pub returns-in-6 : goal.returns-in-6
returns-in-6 c = rw range_tested (search tests)

pub returns-in-11-to-19 : goal.returns-in-11-to-19
returns-in-11-to-19 c = rw range_tested (search tests)

pub returns-in_default : goal.returns-in_default
returns-in_default c = rw (c.literals.ensures, range_tested) (elim c.in_default.branch [
  | in_default-via-then-self-lt6 w ↦ search tests
  | in_default-via-else-self-lt6+else-self-lt8+else-self-lt20 w ↦ search tests
])
