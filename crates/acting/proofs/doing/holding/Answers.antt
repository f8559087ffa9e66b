-- `holding` meets its contract: what is in the range of a hold is a number of turns above 0.
-- Assumes nothing.
use borrow.Author.Tests.{le-ltb}
use Rattle.numbers.proofs.Kit.{tests, wide, back32, back64}
use Rattle.effects.specs.Effects.{holding}
use Rattle.program.proofs.Results.{tested, held, failed}
use Rattle.acting.proofs.Kit.{turns_fit, turns_some}
use Rattle.acting.proofs.doing.holding.Goals as goal

pub returns-then-hold-gt0 : goal.returns-then-hold-gt0
unfolding holding
returns-then-hold-gt0 c = search tests

pub overflow_cast-x : goal.overflow_cast-x
overflow_cast-x c = wide c.ranges.x

pub overflow_cast-result : goal.overflow_cast-result
overflow_cast-result c =
    let is_in_range = tested c.holds.ensures c.hold_range.ensures (back64 c.ranges.x) in
    turns_fit c.ranges.x (held is_in_range c.if-holds.true)

pub overflow_sub-result-then-holds : goal.overflow_sub-result-then-holds
overflow_sub-result-then-holds c =
    let is_in_range = tested c.holds.ensures c.hold_range.ensures (back64 c.ranges.x) in
    turns_some c.ranges.x (held is_in_range c.if-holds.true)

pub returns-then-holds : goal.returns-then-holds
unfolding holding
returns-then-holds c =
    let is_in_range = tested c.holds.ensures c.hold_range.ensures (back64 c.ranges.x) in
    simp (le-ltb _ _ c.if-hold-gt0.false, back32 c.ranges.x, held is_in_range c.if-holds.true)

pub returns : goal.returns
unfolding holding
returns c =
    let is_in_range = tested c.holds.ensures c.hold_range.ensures (back64 c.ranges.x) in
    simp (le-ltb _ _ c.if-hold-gt0.false, failed is_in_range c.if-holds.false)
