-- `storing` meets its contract: the test of range is that of the variable, at VI and VM as they are read.
-- Assumes nothing.
use Rattle.numbers.proofs.Kit.{wide, back32, back64}
use Rattle.effects.specs.Effects.{storing}
use Rattle.program.proofs.Results.{got32, tested, held, failed}
use Rattle.acting.proofs.doing.storing.Goals as goal

pub overflow_cast-value : goal.overflow_cast-value
overflow_cast-value c = wide c.ranges.value

pub returns-then-holds : goal.returns-then-holds
unfolding storing
returns-then-holds c =
    let vi = c.read in
    let vm = c.read-2 in
    let is_in_range = tested c.holds.ensures (simp (got32 _ _ vi.type_inv vi.ensures, got32 _ _ vm.type_inv vm.ensures) at c.range-range.ensures) (back64 c.ranges.value) in
    simp (back32 c.ranges.value, held is_in_range c.if-holds.true)

pub returns : goal.returns
unfolding storing
returns c =
    let vi = c.read in
    let vm = c.read-2 in
    let is_in_range = tested c.holds.ensures (simp (got32 _ _ vi.type_inv vi.ensures, got32 _ _ vm.type_inv vm.ensures) at c.range-range.ensures) (back64 c.ranges.value) in
    simp (failed is_in_range c.if-holds.false)
