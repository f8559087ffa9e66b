-- `later` meets its contract. The invariant: the events passed are of the turn.
-- Assumes nothing.
use mathlib.Core.Path.{◌≡◌, sym, ap, ◌∙◌}
use native.Mathlib.Omega.{arith}
use borrow.Author.Count.{below_more}
use Rattle.events.specs.declared.Event.{Event}
use Rattle.running.proofs.Scripts.{due_before, due_all}
use Rattle.running.proofs.later.Goals as goal

pub loop-k-init : goal.loop-k-init
loop-k-init c = let p = c.requires in (omega (arith, c.event_count-count.ensures, p.1), omega arith, λ j l o. absurd (omega arith))

pub returns-then-whole_event-turn : goal.returns-then-whole_event-turn
returns-then-whole_event-turn c =
    let n = c.event_count-count.ensures in
    let l = c.loop-k in
    due_before _ _ _ l.k l.invariant.1 l.invariant.2 (omega (arith, n, c.loop-k-test.true)) c.whole_event.ensures c.if-whole_event-turn.true

pub loop-k-preserved : goal.loop-k-preserved
loop-k-preserved c =
    let l = c.loop-k in (
      omega arith,
      omega arith,
      below_more _ _ l.invariant.2 (λ o. ap (λ (e : Event). e.turn) (sym c.whole_event.ensures) ∙ c.if-whole_event-turn.false),
    )

pub returns : goal.returns
returns c =
    let n = c.event_count-count.ensures in
    let l = c.loop-k in
    let e : l.k ≡ c.event_count-count.result = omega arith in
    rw e at (due_all _ _ _ l.k l.invariant.1 l.invariant.2 (e ∙ n))
