-- `put_lines` meets its contract. The loop's invariant: the lines that are left, put from here on, give those of all labels and cells.
-- Assumes nothing.
use Prim.Native.Nat.{◌+◌, ◌-◌}
use Rattle.image.specs.Layout.{cell_count}
use Rattle.printing.specs.Code.{cell_texts}
use Rattle.printing.proofs.Pages.{Putting}
use Rattle.printing.proofs.put_lines.Given as goal

abbrev pub invariant-loop-cell : goal.invariant-loop-cell
invariant-loop-cell l = Putting (cell_texts l.image (cell_count l.image) 0 0) l.initial.page l.initial.at (cell_texts l.image (cell_count l.image - l.cell) l.cell l.label) l.page l.at

abbrev pub decreases-loop-cell : goal.decreases-loop-cell
decreases-loop-cell l = (l.cells - l.cell) + (l.labels - l.label)
