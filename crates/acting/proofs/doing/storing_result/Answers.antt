-- `storing_result` meets its contract: what is in the range of literals fits 32 bits.
-- Assumes nothing.
use mir.Facts.{to_z-of_z}
use mir.Syntax.{w64}
use Rattle.effects.specs.Effects.{storing_result}
use Rattle.program.proofs.Results.{tested, held, failed}
use Rattle.acting.proofs.Kit.{narrow, narrowed}
use Rattle.acting.proofs.doing.storing_result.Goals as goal

pub overflow_cast-res : goal.overflow_cast-res
overflow_cast-res c =
    let is_in_range = tested c.holds.ensures c.literals.ensures (to_z-of_z {w = w64} c.ranges.res) in
    narrow c.ranges.res (held is_in_range c.if-holds.true)

pub returns-then-holds : goal.returns-then-holds
unfolding storing_result
returns-then-holds c =
    let is_in_range = tested c.holds.ensures c.literals.ensures (to_z-of_z {w = w64} c.ranges.res) in
    let t = held is_in_range c.if-holds.true in
    simp t (simp (narrowed c.ranges.res t) at c.storing.ensures)

pub returns : goal.returns
unfolding storing_result
returns c =
    let is_in_range = tested c.holds.ensures c.literals.ensures (to_z-of_z {w = w64} c.ranges.res) in
    let f = c.ranges in
    simp (failed is_in_range c.if-holds.false, c.result_error.ensures, to_z-of_z {w = w64} f.res)
