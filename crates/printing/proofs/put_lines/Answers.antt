-- `put_lines` meets its contract. The loop's invariant: the lines that are left, put from here on, give those of all labels and cells.
-- Assumes nothing.
use mathlib.Core.Path.{◌∙◌}
use native.Mathlib.Omega.{arith}
use Rattle.printing.proofs.Pages.{length_put}
use Rattle.printing.proofs.Pieces.{cells_first, label_there, cell_here, label_put, cell_put, lines_put}
use Rattle.printing.proofs.put_lines.Goals as goal

pub loop-cell-init : goal.loop-cell-init
loop-cell-init c = cells_first _ _ _

pub overflow_add-label : goal.overflow_add-label
overflow_add-label c =
    let h = label_there _ _ _ c.cell_count-cells.ensures c.label_count-labels.ensures c.is_next.ensures c.if-is_next.true in
    omega arith

pub loop-cell-smaller-then-is_next : goal.loop-cell-smaller-then-is_next
loop-cell-smaller-then-is_next c =
    let h = label_there _ _ _ c.cell_count-cells.ensures c.label_count-labels.ensures c.is_next.ensures c.if-is_next.true in
    omega arith

pub loop-cell-preserved-then-is_next : goal.loop-cell-preserved-then-is_next
loop-cell-preserved-then-is_next c =
    label_put _ _ _ c.cell_count-cells.ensures c.label_count-labels.ensures c.is_next.ensures c.loop-cell.invariant _ c.if-is_next.true c.line.ensures c.put-at.ensures

pub overflow_add-cell : goal.overflow_add-cell
overflow_add-cell c =
    let h = cell_here _ _ _ c.cell_count-cells.ensures c.label_count-labels.ensures c.is_next.ensures c.if-is_next.false c.loop-cell-test.true in
    omega arith

pub loop-cell-smaller : goal.loop-cell-smaller
loop-cell-smaller c =
    let h = cell_here _ _ _ c.cell_count-cells.ensures c.label_count-labels.ensures c.is_next.ensures c.if-is_next.false c.loop-cell-test.true in
    omega arith

pub loop-cell-preserved : goal.loop-cell-preserved
loop-cell-preserved c =
    cell_put _ _ _ c.cell_count-cells.ensures c.label_count-labels.ensures c.is_next.ensures c.loop-cell.invariant _ _ c.if-is_next.false c.loop-cell-test.true
    c.requires c.opening.ensures c.operands.ensures c.put-at-else-is_next.ensures c.put-at-else-is_next-2.ensures

pub shape_of-page : goal.shape_of-page
shape_of-page c = c.loop-cell.invariant.size ∙ length_put c.put_variables-at.ensures

pub returns : goal.returns
returns c =
    lines_put _ _ _ c.cell_count-cells.ensures c.label_count-labels.ensures c.loop-cell-test.false c.put_variables-at.ensures c.loop-cell.invariant
