-- `add` has put the bytes before the next one behind those that were held.
-- Assumes nothing.
use Rattle.std.proofs.Common.{◌≡◌, take}
use Rattle.parts.specs.Added.{added}
use Rattle.parts.proofs.Text.add.Given as goal

abbrev pub invariant-loop-b : goal.invariant-loop-b
invariant-loop-b g l = take l.self.held l.self.bytes ≡ added g.row.ROOM (take l.initial.self.held l.initial.self.bytes) (take l.b-index l.values)
