-- `names_in` meets its contract: all names in edition 1, else by the pairs.
-- Assumes nothing.
use Rattle.settings.proofs.Loops.{names_tested}
use Rattle.settings.proofs.names_in.Goals as goal

pub returns : goal.returns
returns c =
    names_tested _ c.edition-all.ensures c.has.ensures c.has-2.ensures c.has-3.ensures c.has-4.ensures
