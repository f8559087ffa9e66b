-- `happen` meets its contract: the tests come in the order of specs/; a good event for an input has 0 or 1.
-- Assumes nothing.
use borrow.Author.Rules.{rules}
use mir.Val.{SFits}
use mir.Syntax.{w32}
use Rattle.numbers.proofs.Kit.{back32}
use Rattle.machine.proofs.Inputs.{input_event_lem, happened_input, happened_arrival, happened_place}
use Rattle.machine.proofs.happening.happen.Goals as goal

pub input-requires : goal.input-requires
input-requires c =
    let f : SFits w32 c.args.event.value = search rules in
    let i = input_event_lem c.args.event c.requires.1 c.if-event-eq-INPUT.true in
    (c.requires.0, (i.0, i.1), rw (back32 f) i.2)

pub returns-then-event-eq-INPUT : goal.returns-then-event-eq-INPUT
returns-then-event-eq-INPUT c =
    let f : SFits w32 c.args.event.value = search rules in
    happened_input c.if-event-eq-INPUT.true (simp (back32 f) at c.input.ensures)

pub returns-then-event-eq-ARRIVAL : goal.returns-then-event-eq-ARRIVAL
returns-then-event-eq-ARRIVAL c = happened_arrival c.if-event-eq-INPUT.false c.if-event-eq-ARRIVAL.true c.arrive.ensures

pub returns : goal.returns
returns c =
    let f : SFits w32 c.args.event.value = search rules in
    rw (back32 f) (happened_place c.if-event-eq-INPUT.false c.if-event-eq-ARRIVAL.false)
