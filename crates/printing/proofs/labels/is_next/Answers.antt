-- `is_next` meets its contract.
-- Assumes nothing.
use mathlib.Core.Path.{refl}
use borrow.Author.Tests.{lt-ltb, le-ltb}
use Rattle.image.specs.Layout.{label_target, label_place}
use Rattle.image.specs.Code.{target_of}
use Rattle.printing.specs.Code.{label_next}
use Rattle.printing.proofs.labels.is_next.Goals as goal

pub returns-then-label_count-label : goal.returns-then-label_count-label
unfolding label_next
returns-then-label_count-label c = rw (← c.label_count.ensures, le-ltb _ _ c.if-label_count-label.true) refl

pub returns : goal.returns
unfolding label_next label_target label_place target_of
returns c =
    rw (c.target_at.ensures, ← c.cell_count-cells.ensures, ← c.label_count.ensures, lt-ltb _ _ c.if-label_count-label.false) refl
