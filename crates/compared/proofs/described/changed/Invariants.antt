-- No more bytes are counted than were seen.
-- Assumes nothing.
use Rattle.std.proofs.Common.{◌≤◌}
use Rattle.compared.proofs.described.changed.Given as goal

abbrev pub invariant-loop-b : goal.invariant-loop-b
invariant-loop-b l = l.count ≤ l.b-index
