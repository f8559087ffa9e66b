-- `first_bad_event` meets its contract: the invariant: no event passed is bad.
-- Assumes nothing.
use mathlib.Core.Path.{sym, ◌∙◌}
use native.Mathlib.Omega.{arith}
use Rattle.events.specs.Events.{bad_event, event_count, first_bad_event}
use Rattle.numbers.proofs.Tests.{first_none, first_here}
use Rattle.events.proofs.script.first_bad_event.Goals as goal

pub returns-then-is_bad_event : goal.returns-then-is_bad_event
unfolding first_bad_event
returns-then-is_bad_event c =
    let l = c.loop-k in
    sym (first_here (bad_event _) (event_count _) l.k (omega (arith, c.event_count-count.ensures)) l.invariant (sym c.is_bad_event.ensures ∙ c.if-is_bad_event.true))

pub returns : goal.returns
unfolding first_bad_event
returns c =
    let n = c.event_count-count.ensures in
    n ∙ sym (first_none (bad_event _) (event_count _) (λ j h. c.loop-k.invariant j (omega (arith, n))))
