-- `cell` meets its contract.
-- Assumes nothing.
use Rattle.reading.specs.Code.{cell_shaped, cell_by}
use Rattle.reading.proofs.Parts.{key_spelt}
use Rattle.reading.proofs.cells.cell.Goals as goal

pub returns : goal.returns
unfolding cell_by cell_shaped
returns c =
    let m = c.args.parts in
    rw (← c.of-shape.ensures, c.selector.ensures, c.left.ensures, c.right.ensures, c.target.ensures, key_spelt m.written, key_spelt m.name)
