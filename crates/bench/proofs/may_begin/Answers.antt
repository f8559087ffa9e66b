-- `may_begin` meets its contract: each test behind the ones before it.
-- Assumes nothing.
use mathlib.Core.Path.{sym, ◌∙◌}
use Rattle.running.proofs.Scripts.{few_events}
use Rattle.bench.proofs.Refusing.{by_script, by_event, by_budget, by_room, by_none}
use Rattle.bench.proofs.may_begin.Goals as goal

pub returns-then-is_bad_script : goal.returns-then-is_bad_script
returns-then-is_bad_script c = let a = by_script _ _ _ _ (sym c.is_bad_script.ensures ∙ c.if-is_bad_script.true) in record { number = a.number; index = a.index }

pub first_bad_event-bad-requires : goal.first_bad_event-bad-requires
first_bad_event-bad-requires c = few_events _ (sym c.is_bad_script.ensures ∙ c.if-is_bad_script.false)

pub returns-then-bad-event_count : goal.returns-then-bad-event_count
returns-then-bad-event_count c =
    let a = by_event _ _ _ _ (sym c.is_bad_script.ensures ∙ c.if-is_bad_script.false) c.first_bad_event-bad.ensures c.event_count.ensures c.if-bad-event_count.true in
    record { number = a.number; index = a.index }

pub returns-then-budget-gt-MOST_TURNS : goal.returns-then-budget-gt-MOST_TURNS
returns-then-budget-gt-MOST_TURNS c =
    let a =
    by_budget _ _ _ _ (sym c.is_bad_script.ensures ∙ c.if-is_bad_script.false) c.first_bad_event-bad.ensures c.event_count.ensures c.if-bad-event_count.false
    c.if-budget-gt-MOST_TURNS.true in
    record { number = a.number; index = a.index }

pub returns-then-is_small : goal.returns-then-is_small
returns-then-is_small c =
    let a =
    by_room _ _ _ _ (sym c.is_bad_script.ensures ∙ c.if-is_bad_script.false) c.first_bad_event-bad.ensures c.event_count.ensures c.if-bad-event_count.false
    c.if-budget-gt-MOST_TURNS.false c.if-is_small.true in
    record { number = a.number; index = a.index }

pub returns : goal.returns
returns c =
    let a =
    by_none _ _ _ _ (sym c.is_bad_script.ensures ∙ c.if-is_bad_script.false) c.first_bad_event-bad.ensures c.event_count.ensures c.if-bad-event_count.false
    c.if-budget-gt-MOST_TURNS.false c.if-is_small.false in
    record { number = a.number; index = a.index }
