-- `is_among` meets its contract: what the search finds among the rows.
-- Assumes nothing.
use mathlib.Core.Path.{◌∙◌}
use native.Mathlib.Omega.{arith}
use Rattle.program.proofs.Rising.{searched}
use Rattle.program.proofs.reserved.is_among.Goals as goal

pub returns : goal.returns
returns c = c.is_ok.ensures.value ∙ searched c.args.table.now c.args.key (omega arith) c.told-table c.requires c.to_le_bytes.ensures _ c.binary_search.ensures.bound c.binary_search.ensures.position
