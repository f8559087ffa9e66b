-- `write` meets its contract: the invariant: what is left, over what stands there, gives the whole list.
-- Assumes nothing.
use mathlib.Core.Path.{◌≡◌}
use Prim.Native.Nat.{◌*◌, ◌≤◌}
use lib.Seq.{sets}
use Rattle.comparing.specs.Differences.{differences}
use Rattle.comparing.proofs.Entries.{left}
use Rattle.comparing.proofs.Sides.write.Given as goal

abbrev pub invariant-loop-k : goal.invariant-loop-k
invariant-loop-k l = (sets l.list l.at (left l.self.first.now l.self.second.now l.end l.k) ≡ sets l.initial.list 0 (differences l.self.first.now l.self.second.now)) × (l.at ≤ 8 * l.k)
