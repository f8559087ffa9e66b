-- `line_of` meets its contract. The loop's invariant: seeking from here on, with these cells to pass, finds what seeking in the whole text does.
-- Assumes nothing.
use Rattle.translation.proofs.Seeking.{sought_first, sought_more, placed_here, placed_none}
use Rattle.translation.proofs.line_of.Goals as goal

pub loop-at-init : goal.loop-at-init
loop-at-init c = sought_first c.args.s.now c.args.place

pub returns-then-is_cell-left : goal.returns-then-is_cell-left
returns-then-is_cell-left c =
    placed_here c.loop-at.invariant c.line_at-span.ensures c.read_line.ensures c.unwrap_or-said.ensures c.makes_cell-is_cell.ensures c.if-is_cell-left.true

pub loop-at-preserved : goal.loop-at-preserved
loop-at-preserved c =
    sought_more c.loop-at.invariant c.line_at-span.ensures c.read_line.ensures c.unwrap_or-said.ensures c.makes_cell-is_cell.ensures c.if-is_cell-left.false
    c.fewer_if-left.ensures

pub returns : goal.returns
returns c = placed_none c.loop-at.invariant c.loop-at-test.false
