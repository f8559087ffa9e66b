-- `variable_key` meets its contract: the name of the table, or the field of the record at its place.
-- Assumes nothing.
use mathlib.Core.Path.{◌∙◌}
use Rattle.printing.proofs.Keys.{paper_key, record_key}
use Rattle.printing.proofs.variable_key.Goals as goal

pub returns-then-number-lt-FIRST_USER : goal.returns-then-number-lt-FIRST_USER
returns-then-number-lt-FIRST_USER c = c.key.ensures ∙ paper_key _ _ c.if-number-lt-FIRST_USER.true

pub returns : goal.returns
returns c = rw (c.read2.ensures, c.variable_place.ensures.0) (record_key _ _ c.if-number-lt-FIRST_USER.false)
