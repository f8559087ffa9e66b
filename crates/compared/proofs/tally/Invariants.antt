-- `tally` is safe and ends: each line is behind the one before.
-- Assumes nothing.
use Prim.Native.Nat.{◌-◌}
use lib.ListN.{length}
use Rattle.compared.proofs.tally.Given as goal

abbrev pub invariant-loop-at : goal.invariant-loop-at
invariant-loop-at g l = Unit {0}

abbrev pub decreases-loop-at : goal.decreases-loop-at
decreases-loop-at g l = length l.all - l.at
