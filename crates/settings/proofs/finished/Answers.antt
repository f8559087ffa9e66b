-- `finished` meets its contract: by the edition.
-- Assumes nothing.
use mathlib.Core.Path.{sym, ◌∙◌}
use Rattle.settings.proofs.Loops.{finished_by_place, finished_by_pair}
use Rattle.settings.proofs.finished.Goals as goal

pub returns-then-edition-eq-BY_PLACE : goal.returns-then-edition-eq-BY_PLACE
returns-then-edition-eq-BY_PLACE c = c.by_place.ensures ∙ sym (finished_by_place _ c.edition.ensures _ c.if-edition-eq-BY_PLACE.true)

pub returns : goal.returns
returns c = c.by_pairs.ensures ∙ sym (finished_by_pair _ c.edition.ensures _ c.if-edition-eq-BY_PLACE.false)
