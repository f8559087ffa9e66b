-- `is_bad_event` meets its contract: the first event has none before it.
-- Assumes nothing.
use mathlib.Core.Bool.{or-false}
use native.Mathlib.Omega.{arith}
use borrow.Author.Tests.{le-leb, lt-leb}
use Rattle.events.specs.Events.{bad_event}
use Rattle.events.proofs.script.is_bad_event.Goals as goal

pub returns-then-k-eq0 : goal.returns-then-k-eq0
unfolding bad_event
returns-then-k-eq0 c =
    let k = c.args.k in
    rw (lt-leb 1 k (omega arith), or-false, c.is_good.ensures, c.whole_event-event.ensures)

pub returns : goal.returns
unfolding bad_event
returns c =
    let k = c.args.k in
    rw (le-leb 1 k (omega arith)) (simp (c.is_good-2.ensures, c.whole_event-event.ensures, c.whole_event-before.ensures))
