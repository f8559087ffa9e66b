-- `write::write_cell` meets its contract: two halves, one behind the other.
-- Assumes nothing.
use mathlib.Core.Path.{sym}
use Rattle.numbers.proofs.Laws.{sets_out}
use Rattle.image.specs.Layout.{cell_bytes}
use Rattle.image.proofs.Laws.{twice_written, cell_halves}
use Rattle.image.proofs.write.write_cell.Goals as goal

pub returns-then-b-at : goal.returns-then-b-at
returns-then-b-at c = let a = c.args in sym (sets_out a.b.now a.at (cell_bytes a.c) c.if-b-at.true)

pub returns : goal.returns
returns c =
    let a = c.args in
    rw (← cell_halves a.c) (twice_written a.b.now a.at c.first_half.result c.second_half.result c.first_half.ensures c.second_half.ensures
    c.write.ensures c.write-2.ensures)
