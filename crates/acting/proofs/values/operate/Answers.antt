-- `operate` meets its contract: the operators by number, each by what `numbers` ensures.
-- Assumes nothing.
use Rattle.numbers.proofs.Kit.{tests, wide, fit32, back32}
use Rattle.program.specs.Cells.{operator_of}
use Rattle.effects.specs.Effects.{operate}
use Rattle.program.proofs.Results.{got64, widened}
use Rattle.acting.proofs.values.operate.Goals as goal

pub overflow_cast-result : goal.overflow_cast-result
overflow_cast-result c = wide {z = c.both.result} (fit32 _ c.both.type_inv)

pub overflow_cast-result-in-6 : goal.overflow_cast-result-in-6
overflow_cast-result-in-6 c = wide {z = c.either.result} (fit32 _ c.either.type_inv)

pub overflow_cast-result-in_default : goal.overflow_cast-result-in_default
overflow_cast-result-in_default c = wide {z = c.differing.result} (fit32 _ c.differing.type_inv)

pub returns-in-1 : goal.returns-in-1
unfolding operate operator_of
returns-in-1 c =
    let f = c.ranges in
    rw c.in-1.is (got64 _ _ c.sum.type_inv (simp (back32 f.x, back32 f.y) at c.sum.ensures))

pub returns-in-2 : goal.returns-in-2
unfolding operate operator_of
returns-in-2 c =
    let f = c.ranges in
    rw c.in-2.is (got64 _ _ c.difference.type_inv (simp (back32 f.x, back32 f.y) at c.difference.ensures))

pub returns-in-3 : goal.returns-in-3
unfolding operate operator_of
returns-in-3 c =
    let f = c.ranges in
    rw c.in-3.is (got64 _ _ c.product.type_inv (simp (back32 f.x, back32 f.y) at c.product.ensures))

pub returns-in-4 : goal.returns-in-4
unfolding operate operator_of
returns-in-4 c =
    let f = c.ranges in
    rw c.in-4.is (got64 _ _ c.quotient.type_inv (simp (back32 f.x, back32 f.y) at c.quotient.ensures))

pub returns-in-5 : goal.returns-in-5
unfolding operate operator_of
returns-in-5 c =
    let f = c.ranges in
    rw c.in-5.is (widened _ _ c.both.type_inv (simp (back32 f.x, back32 f.y) at c.both.ensures))

pub returns-in-6 : goal.returns-in-6
unfolding operate operator_of
returns-in-6 c =
    let f = c.ranges in
    rw c.in-6.is (widened _ _ c.either.type_inv (simp (back32 f.x, back32 f.y) at c.either.ensures))

pub returns-in_default : goal.returns-in_default
unfolding operate operator_of
returns-in_default c =
    let f = c.ranges in
    rw (widened _ _ c.differing.type_inv (simp (back32 f.x, back32 f.y) at c.differing.ensures)) (search tests)
