-- `pair_at` meets its contract: each field is read where specs/ has it.
-- Assumes nothing.
use Rattle.program.proofs.Results.{got32}
use Rattle.settings.specs.Layout.{pair_at}
use Rattle.settings.proofs.layout.pair_at.Goals as goal

pub returns : goal.returns
unfolding pair_at
returns c =
    let value = c.value_at in
    rw (got32 _ _ value.type_inv value.ensures, c.read2.ensures, c.read2-2.ensures)
