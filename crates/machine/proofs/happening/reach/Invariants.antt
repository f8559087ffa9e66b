-- `reach` meets its contract. The invariant: what the events left do to the machine here, all of them do to the machine at the start.
-- Assumes nothing.
use mathlib.Core.Path.{◌≡◌}
use Prim.Native.Nat.{◌-◌, ◌≤◌}
use lib.ListN.{length}
use Rattle.machine.specs.declared.Machine.{Machine}
use Rattle.machine.specs.Code.{Inputs, moving, acts}
use Rattle.machine.proofs.happening.reach.Given as goal

abbrev pub invariant-loop-k : goal.invariant-loop-k
invariant-loop-k l = (l.first ≤ l.k) × (l.k ≤ l.last) × Inputs l.vars
    × ((m : Machine) → acts l.events l.k (l.last - l.k) (moving l.vars l.here m) ≡ acts l.events l.first (l.last - l.first) (moving l.initial.vars l.initial.here m))
    × (length l.vars ≡ length l.initial.vars)
