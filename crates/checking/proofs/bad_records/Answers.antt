-- `bad_records` meets its contract: the tests come in the order of `bad_records`.
-- Assumes nothing.
use Rattle.image.specs.Check.{bad_records}
use Rattle.checking.proofs.bad_records.Goals as goal

pub returns-then-bad_names : goal.returns-then-bad_names
unfolding bad_records
returns-then-bad_names c = rw (← c.of-records.ensures, ← c.bad_names.ensures, c.if-bad_names.true)

pub returns-then-bad_targets : goal.returns-then-bad_targets
unfolding bad_records
returns-then-bad_targets c = rw (← c.of-records.ensures, ← c.bad_names.ensures, c.if-bad_names.false, ← c.bad_targets.ensures, c.if-bad_targets.true)

pub returns : goal.returns
unfolding bad_records
returns c = rw (← c.of-records.ensures, ← c.bad_names.ensures, c.if-bad_names.false, ← c.bad_targets.ensures, c.if-bad_targets.false) c.bad_starts.ensures
