use Rattle.std.proofs.Common.{◌≤◌, length}
use Rattle.punnet.proofs.files.fill.Given as goal

-- What was read lies in the room.
abbrev pub invariant-loop : goal.invariant-loop
invariant-loop g l = l.length ≤ length l.room
