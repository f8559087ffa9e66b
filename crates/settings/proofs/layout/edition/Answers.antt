-- `edition` meets its contract: it stands four bytes from the end.
-- Assumes nothing.
use Rattle.settings.specs.Layout.{edition_of}
use Rattle.settings.proofs.layout.edition.Goals as goal

pub returns : goal.returns
unfolding edition_of
returns c = rw (c.read2.ensures, c.from_end.ensures)
