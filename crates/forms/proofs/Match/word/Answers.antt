-- `Match::word` meets its contract.
-- Assumes nothing.
use Rattle.forms.specs.Code.{word_by}
use Rattle.forms.proofs.Match.word.Goals as goal

pub returns-then-fits : goal.returns-then-fits
unfolding word_by
returns-then-fits c = rw (c.onward-m.ensures, c.if-fits.true)

pub returns : goal.returns
unfolding word_by
returns c = rw (c.onward-m.ensures, c.if-fits.false)
