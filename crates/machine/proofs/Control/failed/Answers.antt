-- `Control::failed` meets its contract: the tests come in the order of specs/.
-- Assumes nothing.
use borrow.Author.Tests.{eq-eqb, ne_eqb, lt-ltb, le-ltb}
use Rattle.effects.specs.declared.Effect.TheVariants.{Fails}
use Rattle.machine.specs.Turn.{no_handler, flagged, failed}
use Rattle.machine.specs.Code.{changed}
use Rattle.machine.proofs.Control.failed.Goals as goal

pub returns-then-self-eq-NO_HANDLER : goal.returns-then-self-eq-NO_HANDLER
unfolding failed flagged changed no_handler
returns-then-self-eq-NO_HANDLER c = λ error vars. simp (eq-eqb _ _ c.if-self-eq-NO_HANDLER.true) (c.onward.ensures (changed (Fails error) vars))

pub returns-then-self-lt-MOST : goal.returns-then-self-lt-MOST
unfolding failed flagged changed no_handler
returns-then-self-lt-MOST c = λ error vars. simp (ne_eqb _ _ c.if-self-eq-NO_HANDLER.false, lt-ltb _ _ c.if-self-lt-MOST.true) (c.handled.ensures (changed (Fails error) vars))

pub returns : goal.returns
unfolding failed flagged changed no_handler
returns c = λ error vars. simp (ne_eqb _ _ c.if-self-eq-NO_HANDLER.false, le-ltb _ _ c.if-self-lt-MOST.false)
