-- `is_laid_out` meets its contract: by the trailer, then by the edition.
-- Assumes nothing.
use mathlib.Core.Path.{sym}
use Rattle.settings.proofs.Loops.{laid_not, laid_by_place, laid_by_pair}
use Rattle.settings.proofs.layout.is_laid_out.Goals as goal

pub returns-then-not-has_trailer : goal.returns-then-not-has_trailer
returns-then-not-has_trailer c = sym (laid_not _ c.has_trailer.ensures c.edition-edition.ensures c.if-not-has_trailer.true)

pub returns-then-edition-eq-BY_PLACE : goal.returns-then-edition-eq-BY_PLACE
returns-then-edition-eq-BY_PLACE c =
    sym (laid_by_place _ c.has_trailer.ensures c.edition-edition.ensures c.if-not-has_trailer.false c.if-edition-eq-BY_PLACE.true)

pub returns : goal.returns
returns c =
    rw c.are_good.ensures (sym (laid_by_pair _ c.has_trailer.ensures c.edition-edition.ensures c.if-not-has_trailer.false c.if-edition-eq-BY_PLACE.false))
