-- `store` meets its contract: past the last variable nothing is set.
-- Assumes nothing.
use borrow.Author.Tests.{eq-eqb, ne_eqb}
use borrow.Author.Rules.{rules}
use Rattle.numbers.proofs.Kit.{back32, length_held}
use Rattle.machine.specs.Turn.{stored}
use Rattle.machine.proofs.Turns.{stored_out}
use Rattle.machine.proofs.turn.store.Goals as goal

pub returns-then-v-ge-VARIABLES : goal.returns-then-v-ge-VARIABLES
unfolding stored
returns-then-v-ge-VARIABLES c = stored_out c.args.vars.now c.args.v c.args.value (search (rules, length_held)) c.if-v-ge-VARIABLES.true

pub returns-then-v-eq-ER : goal.returns-then-v-eq-ER
unfolding stored
returns-then-v-eq-ER c = simp (eq-eqb _ _ c.if-v-eq-ER.true, back32 c.ranges.value)

pub returns : goal.returns
unfolding stored
returns c = simp (ne_eqb _ _ c.if-v-eq-ER.false, back32 c.ranges.value)
