-- `is_bad_record` meets its contract: by the zeros of the record.
-- Assumes nothing.
use Rattle.comparing.specs.Differences.{bad_record}
use Rattle.comparing.proofs.is_bad_record.Goals as goal

pub returns : goal.returns
unfolding bad_record
returns c = rw c.whole_event-record.ensures
