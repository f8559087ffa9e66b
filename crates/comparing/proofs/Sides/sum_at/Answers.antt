-- `sum_at` meets its contract: by the buffers that have the record.
-- Assumes nothing.
use mathlib.Core.Path.{sym, ap₂, ◌∙◌}
use native.Mathlib.Omega.{arith}
use Rattle.comparing.specs.Differences.{field_sum}
use Rattle.comparing.proofs.Sums.{sum_first, sum_second, sum_both}
use Rattle.comparing.proofs.Sides.sum_at.Goals as goal

pub returns-then-event_count-k : goal.returns-then-event_count-k
returns-then-event_count-k c = sym (sum_first _ _ _ (omega (arith, c.event_count.ensures, c.if-event_count-k.true)))

pub returns-then-event_count-k-2 : goal.returns-then-event_count-k-2
returns-then-event_count-k-2 c = sym (sum_second _ _ _ (omega (arith, c.event_count.ensures, c.if-event_count-k.false)) (omega (arith, c.event_count-2.ensures, c.if-event_count-k-2.true)))

pub returns : goal.returns
returns c =
    c.field_sum.ensures
    ∙ ap₂ field_sum c.whole_event.ensures c.whole_event-2.ensures
    ∙ sym (sum_both _ _ _ (omega (arith, c.event_count-2.ensures, c.if-event_count-k-2.false)) (omega (arith, c.event_count.ensures, c.if-event_count-k.false)))
