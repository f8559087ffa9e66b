-- `moving` meets its contract: MV is 1 where its bits are, and a target in the range of literals fits 32 bits.
-- Assumes nothing.
use mir.Facts.{to_z-of_z}
use mir.Syntax.{w64}
use Rattle.numbers.proofs.Kit.{back32}
use Rattle.effects.specs.Effects.{moving}
use Rattle.program.proofs.Results.{tested, held, failed}
use Rattle.acting.proofs.Kit.{is_one, not_one, narrow, narrowed}
use Rattle.acting.proofs.doing.moving.Goals as goal

pub returns-then-read-eq1 : goal.returns-then-read-eq1
unfolding moving
returns-then-read-eq1 c = let x = c.read in simp (is_one _ _ x.type_inv x.ensures c.if-read-eq1.true)

pub overflow_cast-result : goal.overflow_cast-result
overflow_cast-result c =
    let is_in_range = tested c.holds.ensures c.literals.ensures (to_z-of_z {w = w64} c.ranges.target) in
    narrow c.ranges.target (held is_in_range c.if-holds.true)

pub returns-then-holds : goal.returns-then-holds
unfolding moving
returns-then-holds c =
    let is_in_range = tested c.holds.ensures c.literals.ensures (to_z-of_z {w = w64} c.ranges.target) in
    let f = c.ranges in
    let x = c.read in
    let t = held is_in_range c.if-holds.true in
    simp (not_one _ _ x.type_inv x.ensures c.if-read-eq1.false, t, narrowed f.target t, back32 f.value)

pub returns : goal.returns
unfolding moving
returns c =
    let is_in_range = tested c.holds.ensures c.literals.ensures (to_z-of_z {w = w64} c.ranges.target) in
    let f = c.ranges in
    let x = c.read in
    simp (
      not_one _ _ x.type_inv x.ensures c.if-read-eq1.false,
      failed is_in_range c.if-holds.false,
      c.result_error.ensures,
      to_z-of_z {w = w64} f.target,
    )
