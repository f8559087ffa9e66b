-- `Places::calls_only` meets its contract: the first i places are changed; once all eight are, a change leaves them.
-- Assumes nothing.
use mathlib.Core.Path.{◌≡◌}
use Prim.Native.Nat.{◌≤◌}
use lib.ListN.{length}
use Rattle.numbers.proofs.Lists.{changed_first}
use Rattle.machine.specs.Turn.{as_call}
use Rattle.machine.proofs.Places.calls_only.Given as goal

abbrev pub invariant-loop-i : goal.invariant-loop-i
invariant-loop-i l = (l.self.all ≡ changed_first as_call l.i l.initial.self.all) × (length l.initial.self.all ≡ 8) × (l.i ≤ l.i-end) × (l.self.kept ≡ l.initial.self.kept)
