-- `good_selector` meets its contract: by whether the field is used.
-- Assumes nothing.
use Rattle.numbers.proofs.Kit.{tests}
use Rattle.image.specs.Check.{good_selector}
use Rattle.cells.proofs.good_selector.Goals as goal

pub returns-then-last-eq0 : goal.returns-then-last-eq0
unfolding good_selector
returns-then-last-eq0 c = search tests

pub returns : goal.returns
unfolding good_selector
returns c = search tests
