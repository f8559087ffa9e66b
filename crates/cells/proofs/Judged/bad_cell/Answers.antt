-- `bad_cell` meets its contract: no layout fits the fields.
-- Assumes nothing.
use Rattle.cells.proofs.Layouts.{cell_judged_by}
use Rattle.cells.proofs.Judged.bad_cell.Goals as goal

pub returns : goal.returns
returns c = cell_judged_by _ _ c.args.self.now.counted c.fields_at-f.ensures c.good_target-aimed.ensures c.has_layout.ensures
