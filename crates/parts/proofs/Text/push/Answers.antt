-- The byte that is put behind the others, or left out, is what `added` says.
-- Assumes nothing.
use Rattle.std.proofs.Common.{rules}
use Rattle.parts.proofs.Adding.{pushed, left_out}
use Rattle.parts.proofs.Text.push.Goals as goal

pub returns-then-has_room : goal.returns-then-has_room
returns-then-has_room g c = search (rules, pushed)

pub returns-else-has_room : goal.returns-else-has_room
returns-else-has_room g c = search (rules, left_out)
