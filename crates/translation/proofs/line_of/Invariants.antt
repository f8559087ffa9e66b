-- `line_of` meets its contract. The loop's invariant: seeking from here on, with these cells to pass, finds what seeking in the whole text does.
-- Assumes nothing.
use Prim.Native.Nat.{◌+◌, ◌-◌}
use lib.ListN.{length}
use Rattle.translation.proofs.Seeking.{Sought}
use Rattle.translation.proofs.line_of.Given as goal

abbrev pub invariant-loop-at : goal.invariant-loop-at
invariant-loop-at l = Sought l.s l.place l.left l.line l.at

abbrev pub decreases-loop-at : goal.decreases-loop-at
decreases-loop-at l = length l.s + 1 - l.at
