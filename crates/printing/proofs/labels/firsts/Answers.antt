-- `firsts` meets its contract. The loop's invariant: entering the records that are left gives the whole.
-- Assumes nothing.
use native.Mathlib.Omega.{arith}
use Rattle.printing.proofs.Targets.{name_known, target_known, entering, entering_more, entering_past, entered_all}
use Rattle.printing.proofs.labels.firsts.Goals as goal

pub loop-k-init : goal.loop-k-init
loop-k-init c = entering c.label_count-k.ensures

pub loop-k-preserved-then-target-lt-TARGETS : goal.loop-k-preserved-then-target-lt-TARGETS
loop-k-preserved-then-target-lt-TARGETS c =
    let n = c.cell_count-cells.ensures in
    entering_more c.loop-k.invariant (omega arith) (target_known _ _ n c.target_at-target.ensures) (name_known _ _ n c.label_place.ensures c.read2.ensures)

pub loop-k-preserved : goal.loop-k-preserved
loop-k-preserved c =
    entering_past c.loop-k.invariant (omega arith) (target_known _ _ c.cell_count-cells.ensures c.target_at-target.ensures) (omega arith)

pub returns : goal.returns
returns c = entered_all c.loop-k.invariant (omega arith)
