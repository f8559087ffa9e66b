-- `storing_with` meets its contract: the test for a zero divisor is one of bits.
-- Assumes nothing.
use Rattle.numbers.proofs.Kit.{back32}
use Rattle.effects.specs.Effects.{storing_with}
use Rattle.program.proofs.Results.{got64, zero_test}
use Rattle.acting.proofs.Kit.{divisor_test}
use Rattle.acting.proofs.doing.storing_with.Goals as goal

pub returns-then-operator-y : goal.returns-then-operator-y
unfolding storing_with
returns-then-operator-y c = rw (divisor_test, ← zero_test _ c.ranges.y, c.if-operator-y.true)

pub returns : goal.returns
unfolding storing_with
returns c =
    let f = c.ranges in
    let r = c.operate in
    rw (divisor_test, ← zero_test _ f.y, c.if-operator-y.false)
    (simp (got64 _ _ r.type_inv (simp (back32 f.x, back32 f.y) at r.ensures)) at c.storing_result.ensures)
