-- `count` meets its contract: the invariant: what was counted and what is left make up all entries.
-- Assumes nothing.
use mathlib.Core.Path.{◌≡◌}
use Prim.Native.Nat.{◌+◌, ◌≤◌}
use lib.ListN.{length}
use Rattle.comparing.specs.Differences.{differing}
use Rattle.comparing.proofs.Entries.{rest}
use Rattle.comparing.proofs.Sides.count.Given as goal

abbrev pub invariant-loop-k : goal.invariant-loop-k
invariant-loop-k l = (l.entries + length (rest l.self.first.now l.self.second.now l.end l.k) ≡ length (differing l.self.first.now l.self.second.now)) × (l.entries ≤ l.k)
