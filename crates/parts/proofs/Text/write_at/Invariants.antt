-- What is still to be written, over what is held, gives the whole.
-- Assumes nothing.
use Rattle.std.proofs.Common.{◌≡◌, take, drop, ◌-◌}
use Rattle.std.proofs.lemmas.List.Edits.{sets}
use Rattle.parts.proofs.Text.write_at.Given as goal

abbrev pub invariant-loop-i : goal.invariant-loop-i
invariant-loop-i g l = (sets (take l.self.held l.self.bytes) l.i (drop (l.i - l.at) l.values) ≡ sets (take l.initial.self.held l.initial.self.bytes) l.at l.values) × (l.self.held ≡ l.initial.self.held)
