-- `has_trailer` meets its contract: the eight bytes are compared as one number.
-- Assumes nothing.
use Rattle.settings.proofs.Loops.{trailer_tested}
use Rattle.settings.proofs.layout.has_trailer.Goals as goal

pub returns : goal.returns
returns c =
    trailer_tested _ _ _ _ _ (λ k. (c.type_inv.s k).fits) c.requires.0 c.trailer.type_inv c.read.ensures c.trailer.ensures
